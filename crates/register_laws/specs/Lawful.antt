-- What a lawful journal's events met when they were appended.
use Rattle.std.specs.Prelude.{None, Some, position, slice_get, take, ℕ, ◌≡◌, ◌≤◌}
use Rattle.agent_events.specs.Events.{Event, event_of, request_of}
use Rattle.register_machine.specs.journal.Choices.{first_some}
use Rattle.register_machine.specs.journal.Journals.{Journal, last_moment}
use Rattle.register_machine.specs.pricing.CorrectedBook.{Book, book_of}
use Rattle.register_machine.specs.pricing.PublishedTable.{table_of}
use Rattle.register_machine.specs.rules.Breaks.{breaks}
use Rattle.agent_events.specs.declared.verdict.Caller.{Caller}
use Rattle.register_machine.specs.rules.InOrder.{broken_rule, first_rules}
use Rattle.register_machine.specs.rules.Situations.{Situation, situation_at}
use Rattle.register_machine.specs.run.Verdicts.{due_now, repeats}

-- a situation with the book of its journal
abbrev pub own_at : Journal → ℕ → Caller → Situation
own_at journal now caller = situation_at (table_of journal) journal now caller

-- The event is what its own request brings behind this journal, asked by a caller with the right to it: its moment isn't
-- before the last one, its terms are good, no event has its content, and no rule is broken, the last one included.
pub record IsBrought (journal : Journal) (event : Event) : Type 0 where
  pub caller : Caller
  pub not_before : last_moment journal ≤ event.moment
  pub allowed : first_some (first_rules (own_at journal event.moment caller) (request_of event.kind)) ≡ None
  pub new : position (repeats (request_of event.kind)) journal ≡ None
  pub clear : broken_rule (own_at journal event.moment caller) (request_of event.kind) ≡ None
  pub brings : event_of (request_of event.kind) event.moment (due_now (own_at journal event.moment caller) (request_of event.kind)) ≡ Some event.kind
  pub keeps : breaks (own_at journal event.moment caller) event ≡ None

-- Each event of a journal is brought behind the events before it.
abbrev pub EachIsBrought : Journal → Type 0
EachIsBrought journal =
    (place : ℕ) (event : Event) → slice_get journal place ≡ Some event → IsBrought (take place journal) event

-- the book of a journal: its own table, corrected, with its own orders
abbrev pub book_behind : Journal → Book
book_behind journal = book_of (table_of journal) journal
