-- What the replay of a lawful journal keeps.
use Rattle.std.specs.Prelude.{All, ℕ, ◌≤◌}
use Rattle.agent_events.specs.Events.{Event}
use Rattle.agent_events.specs.declared.event.EventKind.{EventKind}
use Rattle.register_laws.specs.Lawful.{book_behind}
use Rattle.register_laws.specs.ReplayKeeps.{AsksInRange, IsInRange, IsWithinLimits, KeepsLetters, KeepsRegisters, most_nav}
use Rattle.register_laws.specs.TradeCash.{MovesItsCash}
use Rattle.register_laws.specs.Trades.{IsOrderly, IsOutstandingByTrades}
use Rattle.register_machine.specs.journal.Journals.{Journal}
use Rattle.register_machine.specs.replay.Replay.{replay}

-- what an event says has the range of its fields: prices of at most $100,000.00, and letters of at most $10,000,000,000.00
abbrev pub SaysInRange : EventKind → Type 0
SaysInRange (EventKind.Sheet form) = All (λ price. price.1 ≤ most_nav) form.prices
SaysInRange (EventKind.FixPrice form) = form.nav ≤ most_nav
SaysInRange (EventKind.Order placed) = AsksInRange placed.order.body
SaysInRange (EventKind.Enter form) = AsksInRange form.order.body
SaysInRange (EventKind.Replace form) = AsksInRange form.order.body
SaysInRange _ = Unit {0}

abbrev pub EventInRange : Event → Type 0
EventInRange event = SaysInRange event.kind

-- The book of a lawful journal is orderly and within limits, and it is in range where its events are.
pub record HasALawfulBook (journal : Journal) : Type 0 where
  pub orderly : IsOrderly (book_behind journal)
  pub within : IsWithinLimits (book_behind journal)
  pub in_range : All EventInRange journal → IsInRange (book_behind journal)

-- So its registers are kept, its trades move their cash, shares come and go by trades, and its letters are kept where its events
-- are in range.
pub record KeepsItsReplay (journal : Journal) : Type 0 where
  pub registers : KeepsRegisters (book_behind journal)
  pub letters : All EventInRange journal → KeepsLetters (book_behind journal)
  pub cash : All MovesItsCash (replay (book_behind journal)).trades
  pub shares : (class : ℕ) → IsOutstandingByTrades class (replay (book_behind journal))
