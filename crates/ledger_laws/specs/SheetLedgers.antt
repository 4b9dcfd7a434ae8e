-- What a sheet makes of a ledger.
use Rattle.std.specs.Prelude.{List, ℕ, ◌≡◌}
use Rattle.agent_events.specs.Events.{Event}
use Rattle.agent_events.specs.declared.event.EventKind.{EventKind}
use Rattle.agent_events.specs.declared.request.SheetForm.{SheetForm}
use Rattle.checkpoint_replay.specs.Parts.{part_in}
use Rattle.checkpoint_replay.specs.Sheets.{CanAdvance}
use Rattle.checkpoint_replay.specs.declared.part.HouseholdPart.{HouseholdPart}
use Rattle.register_laws.specs.EventReplays.{sheet_behind}
use Rattle.forward_price.specs.declared.price_sheet.Sheet.{Sheet}
use Rattle.household_fold.specs.Facts.{FactsFit, Known}
use Rattle.checkpoint_replay.specs.Replays.{NumberedOrder, day_behind, orders_under}
use Rattle.ledger_laws.specs.PartsByFacts.{orders_of_part}
use Rattle.ledger_laws.specs.BookFacts.{ServeLastSheet}
use Rattle.ledger_laws.specs.Ledgers.{IsLedgerOf}
use Rattle.register_laws.specs.Lawful.{book_behind}
use Rattle.register_machine.specs.journal.Journals.{Journal, with_event}
use Rattle.register_machine.specs.journal.Lawful.{IsLawful}
use Rattle.register_machine.specs.pricing.CorrectedBook.{Book}

-- orders under the numbers of their households: under each its orders on the sheet, in turn
abbrev pub AreRowsOn : List NumberedOrder → Book → Sheet → Type 0
AreRowsOn rows book sheet =
    (household : ℕ) → orders_under household rows ≡ orders_of_part book household sheet

-- each household gone on by its step over the sheet at hand
abbrev pub IsGoneOn : Known → List NumberedOrder → List (ℕ × HouseholdPart) → List (ℕ × HouseholdPart) → Type 0
IsGoneOn known rows parts new =
    (household : ℕ) → part_in new household
    ≡ day_behind known (orders_under household rows) (part_in parts household)

-- All households can step over the sheet, and where each has, the parts are a ledger of the book.
pub record AdvancesTo (known : Known) (rows : List NumberedOrder) (book : Book) (parts : List (ℕ × HouseholdPart)) : Type 0 where
  pub facts : FactsFit known
  pub households : CanAdvance known rows parts
  pub ledger : (new : List (ℕ × HouseholdPart)) → IsGoneOn known rows parts new → IsLedgerOf book new

-- So it is behind a sheet that follows a lawful journal, with facts that serve the book with the sheet, and the sheet's orders.
abbrev pub LawfulLedgerAdvances : Known → List NumberedOrder → Journal → Event → SheetForm → List (ℕ × HouseholdPart) → Type 0
LawfulLedgerAdvances known rows journal event form parts =
    IsLawful (with_event journal event) → event.kind ≡ EventKind.Sheet form
    → ServeLastSheet known (book_behind (with_event journal event))
    → AreRowsOn rows (book_behind (with_event journal event)) (sheet_behind journal form)
    → IsLedgerOf (book_behind journal) parts
    → AdvancesTo known rows (book_behind (with_event journal event)) parts
