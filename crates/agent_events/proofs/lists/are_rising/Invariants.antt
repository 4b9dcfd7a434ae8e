-- The dates rise exactly where they do so from the date before this one on.
use Rattle.std.proofs.Common.{◌≡◌, ◌-◌, drop}
use Rattle.agent_events.specs.Fields.{are_rising}
use Rattle.agent_events.proofs.lists.are_rising.Given as goal

abbrev pub invariant-loop-i : goal.invariant-loop-i
invariant-loop-i l = are_rising l.days ≡ are_rising (drop (l.i - 1) l.days)
