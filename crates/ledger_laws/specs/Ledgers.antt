-- Which parts are a ledger of a book, and which events leave them one.
use Rattle.std.specs.Prelude.{List, false, ℕ, ◌≡◌}
use Rattle.agent_events.specs.Events.{Event}
use Rattle.checkpoint_replay.specs.Parts.{part_in}
use Rattle.checkpoint_replay.specs.declared.part.HouseholdPart.{HouseholdPart}
use Rattle.register_laws.specs.EventReplays.{is_correction, is_sheet}
use Rattle.register_laws.specs.Households.{part_of}
use Rattle.register_laws.specs.Lawful.{book_behind}
use Rattle.register_machine.specs.journal.Journals.{Journal, with_event}
use Rattle.register_machine.specs.journal.Lawful.{IsLawful}
use Rattle.register_machine.specs.pricing.CorrectedBook.{Book}
use Rattle.register_machine.specs.replay.Replay.{replay}

-- What is kept of each household is its part of the whole replay of a book.
pub record IsLedgerOf (book : Book) (parts : List (ℕ × HouseholdPart)) : Type 0 where
  pub part : (household : ℕ) → part_in parts household ≡ part_of book.accounts household (replay book)

-- Other parts that show the same of each household are a ledger of the book too.
abbrev pub ShowTheSame : List (ℕ × HouseholdPart) → List (ℕ × HouseholdPart) → Type 0
ShowTheSame parts others = (household : ℕ) → part_in others household ≡ part_in parts household

abbrev pub SameShownIsALedger : Book → List (ℕ × HouseholdPart) → List (ℕ × HouseholdPart) → Type 0
SameShownIsALedger book parts others = IsLedgerOf book parts → ShowTheSame parts others → IsLedgerOf book others

-- An event that is no correction and no sheet leaves a ledger of the journal's book one of the book behind it.
abbrev pub LawfulKeepsLedger : Journal → Event → List (ℕ × HouseholdPart) → Type 0
LawfulKeepsLedger journal event parts =
    IsLawful (with_event journal event) → is_correction event.kind ≡ false → is_sheet event.kind ≡ false
    → IsLedgerOf (book_behind journal) parts → IsLedgerOf (book_behind (with_event journal event)) parts
