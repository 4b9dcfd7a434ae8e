-- The households that a sheet reaches: those for which it isn't quiet, each of which takes one step.
use Rattle.std.specs.List.{IsDistinct}
use Rattle.std.specs.Prelude.{All, List, length, nat_eq, ℕ, ◌+◌, ◌≡◌}
use Rattle.agent_events.specs.Events.{Event}
use Rattle.agent_events.specs.declared.event.EventKind.{EventKind}
use Rattle.agent_events.specs.declared.request.SheetForm.{SheetForm}
use Rattle.register_laws.specs.EventReplays.{sheet_behind}
use Rattle.register_laws.specs.HouseholdSheets.{IsQuiet}
use Rattle.register_laws.specs.Households.{own_orders, part_of}
use Rattle.register_laws.specs.Lawful.{book_behind}
use Rattle.register_machine.specs.journal.Journals.{Journal, with_event}
use Rattle.register_machine.specs.journal.Kinds.{accounts_of}
use Rattle.register_machine.specs.journal.Lawful.{IsLawful}
use Rattle.register_machine.specs.replay.Replay.{orders_on, priced_orders, replay}

-- behind the journal the household has no order on the sheet, no payment of it and no letter that ends
abbrev pub IsLeftAlone : Journal → Event → SheetForm → ℕ → Type 0
IsLeftAlone journal event form household =
    let book = book_behind (with_event journal event) in
    let sheet = sheet_behind journal form in
    IsQuiet book sheet (own_orders book.accounts household (orders_on (priced_orders book) sheet))
    (part_of book.accounts household (replay (book_behind journal))).register

abbrev pub IsReached : Journal → Event → SheetForm → ℕ → Type 0
IsReached journal event form household = IsLeftAlone journal event form household → ⊥

-- Of these households, which differ, the sheet reaches each, and the steps counted are one more for each.
pub record TakeOneStepEach (journal : Journal) (event : Event) (households : List ℕ) (before after : ℕ) : Type 0 where
  pub apart : IsDistinct nat_eq households
  pub reached : (form : SheetForm) → event.kind ≡ EventKind.Sheet form → All (IsReached journal event form) households
  pub count : after ≡ before + length households

-- A household that is left alone has the same part behind the sheet as before it.
abbrev pub LeftAloneStays : Journal → Event → SheetForm → ℕ → Type 0
LeftAloneStays journal event form household =
    IsLawful (with_event journal event) → event.kind ≡ EventKind.Sheet form → IsLeftAlone journal event form household
    → part_of (accounts_of (with_event journal event)) household (replay (book_behind (with_event journal event)))
    ≡ part_of (accounts_of journal) household (replay (book_behind journal))
