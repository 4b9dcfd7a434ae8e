-- How many steps an event takes at most that is asked behind a journal: one for each household that a sheet doesn't leave alone, and
-- for a correction as many as there are sheets for each household that it can reach.
use Rattle.std.specs.List.{list_any}
use Rattle.std.specs.Prelude.{Bool, List, None, Option, Some, count_by, length, not, true, ℕ, ◌&&◌, ◌*◌, ◌+◌, ◌==◌, ◌≡◌, ◌≤◌, ◌⊎◌}
use Rattle.agent_events.specs.Events.{Event}
use Rattle.agent_events.specs.declared.event.EventKind.{EventKind}
use Rattle.agent_events.specs.declared.order.OrderRow.{OrderRow}
use Rattle.agent_events.specs.declared.request.SheetForm.{SheetForm}
use Rattle.desk_books.specs.Naming.{names_somewhere}
use Rattle.desk_books.specs.HouseholdsReopened.{household_alone}
use Rattle.desk_books.specs.declared.change.EventChange.{EventChange}
use Rattle.register_laws.specs.EventReplays.{is_correction, sheet_behind}
use Rattle.forward_price.specs.declared.price_sheet.Sheet.{Sheet}
use Rattle.register_laws.specs.HouseholdSheets.{is_paid_on}
use Rattle.register_laws.specs.HouseholdSums.{household_numbers}
use Rattle.register_laws.specs.Households.{own_orders, part_of}
use Rattle.register_laws.specs.Lawful.{book_behind}
use Rattle.register_machine.specs.journal.Journals.{Journal, with_event}
use Rattle.register_machine.specs.pricing.CorrectedBook.{Book}
use Rattle.register_machine.specs.replay.Letter.{has_letter_over}
use Rattle.register_machine.specs.replay.Positions.{Register}
use Rattle.register_machine.specs.replay.Replay.{orders_on, priced_orders, replay}

-- ---- A sheet.

-- there is no order, no position is paid on, and no letter ends: the test of `IsQuiet`
abbrev pub is_quiet : Book → Sheet → List OrderRow → Register → Bool
is_quiet book sheet rows register =
    length rows == 0
    && (not (list_any (is_paid_on book sheet) register) && not (list_any (has_letter_over sheet) register))

-- so it is for a household on the sheet of an event: the test of `IsLeftAlone`
abbrev pub is_left_alone : Journal → Event → SheetForm → ℕ → Bool
is_left_alone journal event form household =
    let book = book_behind (with_event journal event) in
    let sheet = sheet_behind journal form in
    is_quiet book sheet (own_orders book.accounts household (orders_on (priced_orders book) sheet))
    (part_of book.accounts household (replay (book_behind journal))).register

-- how many households of the journal the sheet doesn't leave alone
abbrev pub sheet_reach : Journal → Event → SheetForm → ℕ
sheet_reach journal event form =
    count_by (λ household. not (is_left_alone journal event form household)) (household_numbers journal)

-- ---- A correction.

-- how many households of the journal have a standing order that names a class
abbrev pub class_reach : Journal → ℕ → ℕ
class_reach journal class =
    count_by (λ household. names_somewhere (book_behind journal) household class) (household_numbers journal)

-- the one household of an account, where it is known
abbrev pub account_reach : Journal → ℕ → ℕ
account_reach journal account = length (household_alone journal account)

abbrev pub sheets_before : Journal → ℕ
sheets_before journal = length (book_behind journal).table.sheets

-- ---- Every event, by its kind.

abbrev pub most_steps_of : Journal → Event → EventKind → ℕ
most_steps_of journal event (EventKind.Sheet form) = sheet_reach journal event form
most_steps_of journal event (EventKind.FixPrice form) = class_reach journal form.class * sheets_before journal
most_steps_of journal event (EventKind.FixRate form) = class_reach journal form.class * sheets_before journal
most_steps_of journal event (EventKind.Enter form) = account_reach journal form.order.account * sheets_before journal
most_steps_of journal event (EventKind.Replace form) = account_reach journal form.order.account * sheets_before journal
most_steps_of journal event (EventKind.Void form) = account_reach journal form.account * sheets_before journal
most_steps_of journal event _ = 0

abbrev pub most_steps : Journal → Event → ℕ
most_steps journal event = most_steps_of journal event event.kind

-- ---- A stored event.

-- One that follows takes at most so many steps. One that doesn't takes at most so many too where it is a correction, and else none.
abbrev pub AreFewSteps : Journal → Event → Option EventChange → ℕ → ℕ → Type 0
AreFewSteps journal event (Some change) before after = after ≤ before + most_steps journal event
AreFewSteps journal event None before after =
    (after ≡ before) ⊎ ((is_correction event.kind ≡ true) × (after ≤ before + most_steps journal event))
