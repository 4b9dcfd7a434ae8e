-- Of the places before this one, those that the sheet prices are gathered.
use Rattle.std.proofs.Common.{filter_map, take, ◌≡◌}
use Rattle.register_machine.specs.pricing.CorrectedOrders.{orders_of}
use Rattle.standing_orders.specs.Entries.{owned_at}
use Rattle.standing_orders.specs.Rows.{is_taken}
use Rattle.standing_orders.proofs.sheet_orders.entries_priced.Given as goal

abbrev pub invariant-loop-place : goal.invariant-loop-place
invariant-loop-place l = l.entries.items ≡ filter_map (owned_at (is_taken l.sheet l.prices.table.sheets) (orders_of l.book.journal) l.index.owners) (take l.place-index l.place-items)
