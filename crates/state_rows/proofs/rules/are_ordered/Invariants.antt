-- They rise exactly where they do so from the one before this one on.
use Rattle.std.proofs.Common.{◌≡◌, ◌-◌, drop}
use Rattle.state_rows.specs.Rules.{are_ordered}
use Rattle.state_rows.proofs.rules.are_ordered.Given as goal

abbrev pub invariant-loop-i : goal.invariant-loop-i
invariant-loop-i l = are_ordered l.rows ≡ are_ordered (drop (l.i - 1) l.rows)
