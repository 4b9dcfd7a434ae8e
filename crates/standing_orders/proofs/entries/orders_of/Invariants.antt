-- The orders of the entries before this one are written.
use Rattle.std.proofs.Common.{map, take, ◌≡◌}
use Rattle.standing_orders.specs.Entries.{order_of}
use Rattle.standing_orders.proofs.entries.orders_of.Given as goal

abbrev pub invariant-loop-entry : goal.invariant-loop-entry
invariant-loop-entry l = l.orders ≡ map order_of (take l.entry-index l.entries)
