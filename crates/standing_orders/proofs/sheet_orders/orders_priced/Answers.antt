-- That `orders_priced` keeps its contract.
use Rattle.std.proofs.Common.{List, ap, length, map, subst, sym, ◌∙◌}
use Rattle.std.specs.List.Sorted.{IsNonDecreasingBy}
use Rattle.register_machine.specs.pricing.CorrectedOrders.{orders_of}
use Rattle.standing_orders.proofs.PricedOrders.{priced-on}
use Rattle.standing_orders.proofs.SortedEntries.{orders-rise}
use Rattle.standing_orders.specs.Entries.{order_of}
use Rattle.checkpoint_replay.specs.Replays.{NumberedOrder}
use Rattle.standing_orders.specs.declared.entries.NumberedRow.{NumberedRow}
use Rattle.standing_orders.proofs.sheet_orders.orders_priced.Goals as goal

pub orders_of-requires : goal.orders_of-requires
orders_of-requires c =
    subst (λ (entries : List NumberedRow). IsNonDecreasingBy (λ (entry : NumberedRow). entry.number) entries) (sym c.as_slice.ensures.value) c.in_ok-put_by_number.ensures.rising

pub returns-clause-priced : goal.returns-clause-priced
returns-clause-priced c =
    priced-on c.args.sheet (orders_of c.args.book.now.journal) c.args.prices.now.table.sheets c.args.index.now.owners c.args.index.now.waiting (length c.args.index.now.owners)
    _ c.put_in_turn.new.entries.items c.put_by_number.new.entries.items _
    c.in_ok-entries.ensures.rises c.in_ok-entries.ensures.gathered c.in_ok-put_in_turn.ensures.turn c.put_in_turn.ensures.same c.in_ok-put_by_number.ensures.same
    (c.in_ok-orders.ensures ∙ ap (map order_of) c.as_slice.ensures.value)

pub returns-clause-by_household : goal.returns-clause-by_household
returns-clause-by_household c =
    subst (λ (orders : List NumberedOrder). IsNonDecreasingBy (λ (order : NumberedOrder). order.number) orders) (sym (c.in_ok-orders.ensures ∙ ap (map order_of) c.as_slice.ensures.value))
    (orders-rise c.put_by_number.new.entries.items c.in_ok-put_by_number.ensures.rising)
