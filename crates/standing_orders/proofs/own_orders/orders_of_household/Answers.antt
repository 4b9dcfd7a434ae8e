-- That `orders_of_household` keeps its contract.
use Rattle.std.proofs.Common.{List, Option, ap, filter_map, map, option_to_list, subst, sym, ◌++◌, ◌∙◌}
use Rattle.std.specs.List.Sorted.{IsNonDecreasingBy}
use Rattle.std.specs.Option.{option_copied}
use Rattle.register_machine.specs.pricing.CorrectedOrders.{orders_of}
use Rattle.standing_orders.proofs.OwnOrders.{own-by-sheet}
use Rattle.standing_orders.proofs.SortedEntries.{orders-rise}
use Rattle.standing_orders.specs.Entries.{numbered_at, order_of}
use Rattle.checkpoint_replay.specs.Replays.{NumberedOrder}
use Rattle.standing_orders.specs.Places.{not_before, places_where}
use Rattle.standing_orders.specs.Rows.{is_owner}
use Rattle.standing_orders.specs.declared.entries.NumberedRow.{NumberedRow}
use Rattle.standing_orders.proofs.own_orders.orders_of_household.Goals as goal

pub orders_of-requires : goal.orders_of-requires
orders_of-requires c =
    subst (λ (entries : List NumberedRow). IsNonDecreasingBy (λ (entry : NumberedRow). entry.number) entries) (sym c.as_slice.ensures.value) c.in_ok-put_by_number.ensures.rising

pub returns-clause-own : goal.returns-clause-own
returns-clause-own c =
    own-by-sheet c.args.book.now.journal (option_copied c.args.trial) c.args.prices.now.table.sheets c.args.index.now.owners c.args.household c.args.first
    c.push_found.new.entries.items c.put_in_turn.new.entries.items c.put_by_number.new.entries.items _
    c.requires
    (c.in_ok-push_found.ensures
    ∙ (ap (λ (front : List NumberedRow). front ++ option_to_list c.entry_begun.result) c.in_ok-entries.ensures
    ∙ ap (λ (begun : Option NumberedRow). filter_map (numbered_at c.args.prices.now.table.sheets (option_copied c.args.trial) (orders_of c.args.book.now.journal)) (not_before c.args.first (places_where (is_owner c.args.household) c.args.index.now.owners)) ++ option_to_list begun) c.entry_begun.ensures))
    c.in_ok-put_in_turn.ensures.turn c.put_in_turn.ensures.same c.in_ok-put_by_number.ensures.same
    (c.in_ok-orders.ensures ∙ ap (map order_of) c.as_slice.ensures.value)

pub returns-clause-by_sheet : goal.returns-clause-by_sheet
returns-clause-by_sheet c =
    subst (λ (orders : List NumberedOrder). IsNonDecreasingBy (λ (order : NumberedOrder). order.number) orders) (sym (c.in_ok-orders.ensures ∙ ap (map order_of) c.as_slice.ensures.value))
    (orders-rise c.put_by_number.new.entries.items c.in_ok-put_by_number.ensures.rising)
