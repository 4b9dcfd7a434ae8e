-- The proof of the law `kinds_go_on`.
use Rattle.register_machine.specs.journal.Kinds.{account_in, calendar_in, class_in, closure_in, dealer_in, household_in, sheet_in}
use Rattle.register_laws.proofs.OneEventMore.{gathers-on}
use Rattle.register_laws.proofs.journal_laws.kinds_go_on.Goals as goal

pub returns : goal.returns
returns c journal event = record {
  calendars = gathers-on calendar_in journal event;
  closures = gathers-on closure_in journal event;
  classes = gathers-on class_in journal event;
  dealers = gathers-on dealer_in journal event;
  households = gathers-on household_in journal event;
  accounts = gathers-on account_in journal event;
  sheets = gathers-on sheet_in journal event;
}
