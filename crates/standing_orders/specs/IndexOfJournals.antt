-- The index of a journal's orders: whose they are, and which of them wait; and what it becomes with each event.
use Rattle.std.specs.Prelude.{Bool, List, Some, [], false, filter, length, slice_get, true, ℕ, ◌++◌, ◌∷◌, ◌≡◌}
use Rattle.agent_events.specs.Events.{Event}
use Rattle.agent_events.specs.declared.event.EventKind.{EventKind}
use Rattle.agent_events.specs.declared.event.Placed.{Placed}
use Rattle.agent_events.specs.declared.order.OrderRow.{OrderRow}
use Rattle.agent_events.specs.declared.request.EntryForm.{EntryForm}
use Rattle.agent_events.specs.declared.request.SheetForm.{SheetForm}
use Rattle.register_laws.specs.EventReplays.{sheet_behind}
use Rattle.forward_price.specs.declared.price_sheet.Sheet.{Sheet}
use Rattle.register_laws.specs.OneEventMore.{corrected_table}
use Rattle.register_machine.specs.journal.Journals.{Journal, with_event}
use Rattle.register_machine.specs.journal.Kinds.{accounts_of, household_of}
use Rattle.register_machine.specs.journal.Lawful.{IsLawful}
use Rattle.register_machine.specs.pricing.CorrectedOrders.{orders_of, replaces}
use Rattle.standing_orders.specs.Places.{RisesWithin, passes_at, with_place, with_settled}
use Rattle.standing_orders.specs.Rows.{AreOwners, HasEach, stays, waits}
use Rattle.standing_orders.specs.WaitingLaws.{AllWait}

abbrev pub sheets_of : Journal → List Sheet
sheets_of journal = (corrected_table journal).sheets

-- The households are those of the journal's orders, every order that waits is among the waiting places, and each that stands among
-- them waits.
pub record IsIndexOf (journal : Journal) (owners waiting : List ℕ) : Type 0 where
  pub owned : AreOwners (accounts_of journal) (orders_of journal) owners
  pub within : RisesWithin 0 (length owners) waiting
  pub enough : HasEach (waits (sheets_of journal)) (orders_of journal) waiting
  pub all_wait : AllWait (sheets_of journal) (orders_of journal) waiting

-- some places of which one is settled in a journal: it stays only where its order waits
abbrev pub settled_waiting : Journal → ℕ → List ℕ → List ℕ
settled_waiting journal place waiting = with_settled (waits (sheets_of journal)) (orders_of journal) place waiting

-- ---- What the index becomes with an event that follows the journal.

-- An event that places, enters and replaces no order, and is no sheet, leaves it: what is struck waits no more wherever it stands.
abbrev pub leaves_index : EventKind → Bool
leaves_index (EventKind.Order placed) = false
leaves_index (EventKind.Enter form) = false
leaves_index (EventKind.Replace form) = false
leaves_index (EventKind.Sheet form) = false
leaves_index _ = true

abbrev pub LawfulLeavesIndex : Journal → Event → List ℕ → List ℕ → Type 0
LawfulLeavesIndex journal event owners waiting =
    IsLawful (with_event journal event) → leaves_index event.kind ≡ true
    → IsIndexOf journal owners waiting → IsIndexOf (with_event journal event) owners waiting

-- An order that is placed comes behind the others and waits.
abbrev pub LawfulBeginsOrder : Journal → Event → Placed → ℕ → List ℕ → List ℕ → Type 0
LawfulBeginsOrder journal event placed household owners waiting =
    IsLawful (with_event journal event) → event.kind ≡ EventKind.Order placed
    → household_of (accounts_of journal) placed.order.account ≡ Some household → IsIndexOf journal owners waiting
    → IsIndexOf (with_event journal event) (owners ++ household ∷ []) (waiting ++ length owners ∷ [])

-- One that is entered comes behind the others; it may have its sheet, so it alone is settled.
abbrev pub LawfulEntersOrder : Journal → Event → EntryForm → ℕ → List ℕ → List ℕ → Type 0
LawfulEntersOrder journal event form household owners waiting =
    IsLawful (with_event journal event) → event.kind ≡ EventKind.Enter form
    → household_of (accounts_of journal) form.order.account ≡ Some household → IsIndexOf journal owners waiting
    → IsIndexOf (with_event journal event) (owners ++ household ∷ [])
    (settled_waiting (with_event journal event) (length owners) (waiting ++ length owners ∷ []))

-- One that is replaced may wait again, in its place, and it alone is settled.
abbrev pub LawfulReplacesOrder : Journal → Event → EntryForm → ℕ → List ℕ → List ℕ → Type 0
LawfulReplacesOrder journal event form place owners waiting =
    IsLawful (with_event journal event) → event.kind ≡ EventKind.Replace form
    → (row : OrderRow) → slice_get (orders_of journal) place ≡ Some row → replaces row.order form ≡ true
    → IsIndexOf journal owners waiting
    → IsIndexOf (with_event journal event) owners (settled_waiting (with_event journal event) place (with_place place waiting))

-- A sheet takes what it prices.
abbrev pub LawfulSheetTakes : Journal → Event → SheetForm → List ℕ → List ℕ → Type 0
LawfulSheetTakes journal event form owners waiting =
    IsLawful (with_event journal event) → event.kind ≡ EventKind.Sheet form → IsIndexOf journal owners waiting
    → IsIndexOf (with_event journal event) owners
    (filter
    (passes_at (stays (sheet_behind journal form).number (sheets_of (with_event journal event))) (orders_of (with_event journal event)))
    waiting)
