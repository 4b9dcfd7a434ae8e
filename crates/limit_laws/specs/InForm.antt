-- The forms of fields that the limits take for granted of a journal's events, as every text and every row has them.
use Rattle.std.specs.Prelude.{All, true, ℕ, ◌^◌, ◌≡◌, ◌≤◌}
use Rattle.agent_events.specs.Events.{Event}
use Rattle.agent_events.specs.Fields.{is_rising}
use Rattle.agent_events.specs.declared.event.EventKind.{EventKind}
use Rattle.register_laws.specs.LawfulReplays.{EventInRange}
use Rattle.register_machine.specs.journal.Journals.{Journal}

-- a dividend of at most $1,000.00 a share, in millionths of a dollar
abbrev pub most_rate : ℕ
most_rate = 10 ^ 9

-- a sheet's prices rise by class, and a rate is within its range
abbrev pub SaysInForm : EventKind → Type 0
SaysInForm (EventKind.Sheet form) = is_rising form.prices ≡ true
SaysInForm (EventKind.Dividend form) = form.rate ≤ most_rate
SaysInForm (EventKind.FixRate form) = form.rate ≤ most_rate
SaysInForm _ = Unit {0}

-- beside the ranges of prices and of letters
pub record IsInForm (event : Event) : Type 0 where
  pub range : EventInRange event
  pub form : SaysInForm event.kind

abbrev pub AreInForm : Journal → Type 0
AreInForm journal = All IsInForm journal
