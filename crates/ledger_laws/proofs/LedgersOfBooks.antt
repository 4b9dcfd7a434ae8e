-- The ledger of no event, and ledgers that events leave.
use Rattle.std.proofs.Common.{List, [], refl, sym, ℕ, ◌∙◌}
use Rattle.agent_events.specs.Events.{Event}
use Rattle.checkpoint_replay.specs.declared.part.HouseholdPart.{HouseholdPart}
use Rattle.register_laws.proofs.PartsStay.{parts_stay}
use Rattle.ledger_laws.specs.Ledgers.{IsLedgerOf, LawfulKeepsLedger, SameShownIsALedger}
use Rattle.register_laws.specs.Lawful.{book_behind}
use Rattle.register_machine.specs.journal.Journals.{Journal}
use Rattle.register_machine.specs.pricing.CorrectedBook.{Book}
use Rattle.register_machine.specs.pricing.PublishedTable.{table_behind}
use Rattle.register_machine.specs.replay.Replay.{replay}

pub empty_ledger : IsLedgerOf (book_behind []) []
unfolding replay table_behind
empty_ledger = record { part = λ household. refl }

pub same_shown : (book : Book) (parts others : List (ℕ × HouseholdPart)) → SameShownIsALedger book parts others
same_shown book parts others is same = record { part = λ household. same household ∙ is.part household }

pub keeps_ledger : (journal : Journal) (event : Event) (parts : List (ℕ × HouseholdPart)) → LawfulKeepsLedger journal event parts
keeps_ledger journal event parts lawful plain other is = record {
  part = λ household. is.part household ∙ sym (parts_stay journal event lawful plain other household);
}
