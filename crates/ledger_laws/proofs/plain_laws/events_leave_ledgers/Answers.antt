-- The proof of the law `events_leave_ledgers`.
use Rattle.std.proofs.Common.{sym, ◌∙◌}
use Rattle.register_laws.proofs.PartsStay.{parts_stay}
use Rattle.ledger_laws.proofs.plain_laws.events_leave_ledgers.Goals as goal

pub returns : goal.returns
returns c journal event parts lawful plain other is = record {
  part = λ household. is.part household ∙ sym (parts_stay journal event lawful plain other household);
}
