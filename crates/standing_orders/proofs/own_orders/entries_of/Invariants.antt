-- Of the places before this one, the orders that sheets price are gathered.
use Rattle.std.proofs.Common.{filter_map, take, ◌≡◌}
use Rattle.std.specs.Option.{option_copied}
use Rattle.register_machine.specs.pricing.CorrectedOrders.{orders_of}
use Rattle.standing_orders.specs.Entries.{numbered_at}
use Rattle.standing_orders.proofs.own_orders.entries_of.Given as goal

abbrev pub invariant-loop-place : goal.invariant-loop-place
invariant-loop-place l = l.entries.items ≡ filter_map (numbered_at l.prices.table.sheets (option_copied l.trial) (orders_of l.book.journal)) (take l.place-index l.place-items)
