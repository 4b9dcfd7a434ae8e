-- What the reply to an event reads of the journal before it: the number of its sheets, and for a correction its gains.
use Rattle.std.specs.Prelude.{List, None, Option, Some, is_some, length, slice_get, take, true, ℕ, ◌+◌, ◌≡◌}
use Rattle.agent_events.specs.Events.{Event}
use Rattle.agent_events.specs.declared.event.EventKind.{EventKind}
use Rattle.agent_events.specs.declared.reply_lists.ClassGain.{ClassGain}
use Rattle.forward_price.specs.PriceTables.{Table, number_at}
use Rattle.forward_price.specs.declared.price_sheet.Sheet.{Sheet}
use Rattle.register_laws.specs.Lawful.{book_behind}
use Rattle.register_machine.specs.corrections.Gains.{gains_at}
use Rattle.register_machine.specs.corrections.Payments.{bearer_in}
use Rattle.register_machine.specs.journal.Journals.{Journal}
use Rattle.register_machine.specs.journal.Kinds.{each_in, sheet_in}
use Rattle.register_machine.specs.journal.Lawful.{IsLawful}
use Rattle.register_machine.specs.pricing.PublishedTable.{table_of}

-- so many sheets are published before, and one more
abbrev pub next_number : Journal → ℕ
next_number before = length (each_in sheet_in before) + 1

-- where the event is a sheet, this is its number
abbrev pub NumbersSheet : Journal → EventKind → ℕ → Type 0
NumbersSheet before kind number = is_some (sheet_in kind) ≡ true → number ≡ next_number before

-- where it is a correction, these are its gains
abbrev pub AreGainsOf : Table → Journal → Event → List ClassGain → Type 0
AreGainsOf table before event gains =
    is_some (bearer_in event.kind) ≡ true → gains ≡ gains_at table before event

-- the number of the sheet that an event publishes, among the published ones; 0 where it is none of them
abbrev pub number_among : List Sheet → EventKind → Option ℕ
number_among sheets (EventKind.Sheet form) = number_at sheets form.calendar form.moment
number_among sheets _ = None

-- the sheet of an event stands among the published ones by the number that it was given
abbrev pub StandsAsNumbered : List Sheet → Journal → EventKind → Type 0
StandsAsNumbered sheets before kind =
    is_some (sheet_in kind) ≡ true → number_among sheets kind ≡ Some (next_number before)

-- the gains of a correction are kept as they were at its event
abbrev pub AreKeptFor : Journal → Event → Option (List ClassGain) → Type 0
AreKeptFor before event kept =
    is_some (bearer_in event.kind) ≡ true → kept ≡ Some (gains_at (table_of before) before event)

-- In a lawful journal a sheet's event stands among all its sheets by the number that it was given.
abbrev pub LawfulStandsAsNumbered : Journal → ℕ → Event → Type 0
LawfulStandsAsNumbered journal place event =
    IsLawful journal → slice_get journal place ≡ Some event
    → StandsAsNumbered (book_behind journal).table.sheets (take place journal) event.kind

-- The published sheets are as many as the journal publishes: the next one's number is one more.
abbrev pub CountsItsSheets : Journal → Type 0
CountsItsSheets journal = length (book_behind journal).table.sheets + 1 ≡ next_number journal
