-- What every lawful journal keeps within limits, and which of its events fit a stored row.
use Rattle.std.specs.List.{list_all}
use Rattle.std.specs.Prelude.{Bool, count_by, is_none, length, true, ℕ, ◌&&◌, ◌==◌, ◌≡◌, ◌≤◌}
use Rattle.agent_events.specs.Events.{Event, fits_row, request_of}
use Rattle.agent_events.specs.Fields.{are_holidays, is_rising}
use Rattle.agent_events.specs.declared.event.EventKind.{EventKind}
use Rattle.agent_events.specs.declared.request.ClassForm.{ClassForm}
use Rattle.agent_events.specs.declared.request.SheetForm.{SheetForm}
use Rattle.class_terms.specs.Tables.{deferred_fault, front_fault}
use Rattle.register_laws.specs.Lawful.{own_at}
use Rattle.register_machine.specs.journal.Journals.{Journal, with_event}
use Rattle.register_machine.specs.journal.Kinds.{accounts_of, calendars_of, classes_of, dealers_of, households_of}
use Rattle.register_machine.specs.journal.Lawful.{IsLawful}
use Rattle.agent_events.specs.declared.verdict.Caller.{Caller}
use Rattle.register_machine.specs.rules.Limits.{is_of_account, most_orders}
use Rattle.register_machine.specs.rules.NamedThings.{things_named}

-- how many there may be of each kind, of a household's accounts, of an account's orders and cancels, and of events
pub record KeepsItsLimits (journal : Journal) : Type 0 where
  pub calendars : length (calendars_of journal) ≤ 16
  pub classes : length (classes_of journal) ≤ 1000
  pub dealers : length (dealers_of journal) ≤ 1000
  pub households : length (households_of journal) ≤ 100000
  pub accounts : (household : ℕ) → count_by (λ account. account.household == household) (accounts_of journal) ≤ 64
  pub orders : (account : ℕ) → count_by (is_of_account account) journal ≤ most_orders
  pub events : length journal ≤ 100000000

-- the loads of every class are good
abbrev pub has_good_loads : ClassForm → Bool
has_good_loads form = is_none (front_fault form.front) && is_none (deferred_fault form.deferred)

abbrev pub ClassesHaveGoodLoads : Journal → Type 0
ClassesHaveGoodLoads journal = list_all has_good_loads (classes_of journal) ≡ true

-- ---- Stored rows: a row counts the items of a list in two bytes.

-- The lists of a request in the forms that a text has them in: holidays are at most 3,660, a sheet's prices rise by class.
abbrev pub has_list_forms : EventKind → Bool
has_list_forms (EventKind.Calendar form) = are_holidays form.holidays
has_list_forms (EventKind.Sheet form) = is_rising form.prices
has_list_forms _ = true

-- a sheet lists at most as many classes as there are; the loads of a class are few whatever the form
pub record HasShortLists (journal : Journal) (kind : EventKind) : Type 0 where
  pub prices : (form : SheetForm) → kind ≡ EventKind.Sheet form → is_rising form.prices ≡ true → length form.prices ≤ length (classes_of journal)
  pub front : (form : ClassForm) → kind ≡ EventKind.Class form → length form.front ≤ 16
  pub deferred : (form : ClassForm) → kind ≡ EventKind.Class form → length form.deferred ≤ 10

abbrev pub LawfulHasShortLists : Journal → Event → Type 0
LawfulHasShortLists journal event = IsLawful (with_event journal event) → HasShortLists journal event.kind

-- so each event whose lists are in their forms fits a row
abbrev pub LawfulFitsRow : Journal → Event → Type 0
LawfulFitsRow journal event =
    IsLawful (with_event journal event) → has_list_forms event.kind ≡ true → fits_row event.kind ≡ true

-- ---- What the events name.

-- Each thing that an event names stood in the journal before it.
abbrev pub LawfulNamesWhatStands : Journal → Event → Type 0
LawfulNamesWhatStands journal event =
    IsLawful (with_event journal event)
    → list_all (λ field. field.1) (things_named (own_at journal event.moment Caller.Operator) (request_of event.kind)) ≡ true
