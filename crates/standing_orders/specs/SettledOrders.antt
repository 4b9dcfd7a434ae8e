-- The orders of a household that are settled up to a sheet: none of them is executed behind it; and which events leave them so.
use Rattle.std.specs.Prelude.{List, Some, false, length, slice_get, slice_index_or, true, ℕ, ◌<◌, ◌≡◌, ◌≤◌}
use Rattle.agent_events.specs.Events.{Event}
use Rattle.agent_events.specs.declared.event.EventKind.{EventKind}
use Rattle.agent_events.specs.declared.order.OrderRow.{OrderRow}
use Rattle.agent_events.specs.declared.request.EntryForm.{EntryForm}
use Rattle.register_laws.specs.EventReplays.{is_correction}
use Rattle.register_laws.specs.Households.{is_of_household}
use Rattle.register_laws.specs.Lawful.{book_behind}
use Rattle.register_laws.specs.OneEventMore.{book_after}
use Rattle.register_machine.specs.journal.Journals.{Journal, with_event}
use Rattle.register_machine.specs.journal.Kinds.{accounts_of}
use Rattle.register_machine.specs.journal.Lawful.{IsLawful}
use Rattle.register_machine.specs.pricing.CorrectedBook.{Book}
use Rattle.standing_orders.specs.Rows.{is_settled}
use Rattle.standing_orders.specs.IndexOfJournals.{IsIndexOf, sheets_of}

-- the household's orders at the places before this one are struck, or on a sheet up to the one of this number
abbrev pub AreSettled : Book → ℕ → ℕ → ℕ → Type 0
AreSettled book household first number =
    (place : ℕ) (row : OrderRow) → place < first → slice_get book.orders place ≡ Some row
    → is_of_household book.accounts household row.order.account ≡ true → is_settled book.table.sheets number row ≡ true

-- those of every household are, which are no more than the book has
pub record AllAreSettled (book : Book) (first number : ℕ) : Type 0 where
  pub begun : first ≤ length book.orders
  pub settled : (household : ℕ) → AreSettled book household first number

-- ---- What waits tells what is settled.

-- the first place that waits, or how many there are
abbrev pub first_waiting : List ℕ → ℕ → ℕ
first_waiting waiting many = slice_index_or waiting 0 many

-- Before it all orders are settled up to the last sheet.
abbrev pub SettledBeforeWaiting : Journal → List ℕ → List ℕ → Type 0
SettledBeforeWaiting journal owners waiting =
    IsLawful journal → IsIndexOf journal owners waiting
    → AllAreSettled (book_behind journal) (first_waiting waiting (length owners)) (length (sheets_of journal))

-- ---- What leaves them settled.

-- An event that is no correction does.
abbrev pub LawfulLeavesSettled : Journal → Event → ℕ → ℕ → ℕ → Type 0
LawfulLeavesSettled journal event household first number =
    IsLawful (with_event journal event) → is_correction event.kind ≡ false → first ≤ length (book_behind journal).orders
    → AreSettled (book_behind journal) household first number
    → AreSettled (book_behind (with_event journal event)) household first number

-- So does a correction that replaces no order of the household.
abbrev pub ReplacesNone : Journal → EventKind → ℕ → Type 0
ReplacesNone journal kind household =
    (form : EntryForm) → kind ≡ EventKind.Replace form
    → is_of_household (accounts_of journal) household form.order.account ≡ false

abbrev pub CorrectionLeavesSettled : Journal → Event → ℕ → ℕ → ℕ → Type 0
CorrectionLeavesSettled journal event household first number =
    book_behind (with_event journal event) ≡ book_after (length journal) (book_behind journal) event.moment event.kind
    → is_correction event.kind ≡ true → ReplacesNone journal event.kind household → first ≤ length (book_behind journal).orders
    → AreSettled (book_behind journal) household first number
    → AreSettled (book_behind (with_event journal event)) household first number
