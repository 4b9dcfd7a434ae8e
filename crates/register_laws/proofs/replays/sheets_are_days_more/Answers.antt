-- That `sheets_are_days_more` keeps its contract.
use Rattle.register_laws.proofs.EventReplays.{goes-over, same-before, sheet-behind-all}
use Rattle.register_laws.proofs.replays.sheets_are_days_more.Goals as goal

pub returns : goal.returns
returns c journal event lawful form is = record {
  sheets = sheet-behind-all journal event lawful form is;
  up_to = same-before journal event lawful form is;
  goes_on = goes-over journal event lawful form is;
}
