-- What one event more does to the replay of a lawful journal: nothing on the sheets that were published before it, where it is
-- no correction; and a sheet is one day more.
use Rattle.std.specs.Prelude.{Bool, [], false, is_some, length, ℕ, ◌++◌, ◌∷◌, ◌≡◌, ◌≤◌}
use Rattle.agent_events.specs.Events.{Event}
use Rattle.agent_events.specs.declared.event.EventKind.{EventKind}
use Rattle.agent_events.specs.declared.request.SheetForm.{SheetForm}
use Rattle.forward_price.specs.PriceTables.{sheet_published}
use Rattle.forward_price.specs.declared.price_sheet.Sheet.{Sheet}
use Rattle.register_laws.specs.Lawful.{book_behind}
use Rattle.register_machine.specs.corrections.Payments.{bearer_in}
use Rattle.register_machine.specs.journal.Journals.{Journal, with_event}
use Rattle.register_machine.specs.journal.Kinds.{sheet_in}
use Rattle.register_machine.specs.journal.Lawful.{IsLawful}
use Rattle.register_machine.specs.replay.Replay.{day_after_sheet, priced_orders, replay, replay_to}

abbrev pub is_correction : EventKind → Bool
is_correction kind = is_some (bearer_in kind)

abbrev pub is_sheet : EventKind → Bool
is_sheet kind = is_some (sheet_in kind)

-- The replay up to each sheet that was published before the event stays as it was.
pub record KeepsSheets (journal : Journal) (event : Event) : Type 0 where
  pub up_to : (number : ℕ)
      → replay_to (book_behind journal) number
      ≡ replay_to (book_behind (with_event journal event)) number

-- An event that is no correction and no sheet leaves the replay as it was, whole and up to each sheet.
abbrev pub LawfulLeavesReplay : Journal → Event → Type 0
LawfulLeavesReplay journal event =
    IsLawful (with_event journal event) → is_correction event.kind ≡ false → is_sheet event.kind ≡ false
    → KeepsSheets journal event
    × (replay (book_behind (with_event journal event)) ≡ replay (book_behind journal))

-- the sheet that an event publishes behind a journal
abbrev pub sheet_behind : Journal → SheetForm → Sheet
sheet_behind journal form = sheet_published (book_behind journal).table form.calendar form.moment form.prices

-- A sheet is one day more: it comes behind the others, and the replay goes on over it from where it was.
pub record AddsSheet (journal : Journal) (event : Event) (form : SheetForm) : Type 0 where
  pub sheets : (book_behind (with_event journal event)).table.sheets
      ≡ (book_behind journal).table.sheets ++ sheet_behind journal form ∷ []
  pub up_to : (number : ℕ) → number ≤ length (book_behind journal).table.sheets
      → replay_to (book_behind (with_event journal event)) number ≡ replay_to (book_behind journal) number
  pub goes_on : replay (book_behind (with_event journal event))
      ≡ day_after_sheet (book_behind (with_event journal event)) (priced_orders (book_behind (with_event journal event)))
      (replay (book_behind journal)) (sheet_behind journal form)

abbrev pub LawfulAddsSheet : Journal → Event → Type 0
LawfulAddsSheet journal event =
    IsLawful (with_event journal event) → (form : SheetForm) → event.kind ≡ EventKind.Sheet form
    → AddsSheet journal event form
