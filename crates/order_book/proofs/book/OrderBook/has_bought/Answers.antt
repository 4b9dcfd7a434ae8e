-- That `OrderBook::has_bought` keeps its contract.
use Rattle.std.proofs.Common.{Option, ap, subst, suc, sym, take, ℕ, ◌<◌, ◌∙◌, ◌≡◌, ◌||◌}
use Rattle.std.specs.List.{list_any}
use Rattle.std.specs.Option.{option_copied, option_map_or}
use Rattle.order_book.proofs.ChainWalk.{HasCome, Steps, begins-walk, ends-walk, goes-on, item-passes, of-account, same-account, smaller, steps}
use Rattle.order_book.specs.LastPlaces.{is_order_of, last_place}
use Rattle.register_machine.specs.pricing.CorrectedOrders.{orders_of}
use Rattle.register_machine.specs.rules.Orders.{ordered_before}
use Rattle.order_book.proofs.book.OrderBook.has_bought.Goals as goal

pub orders-init : goal.orders-init
orders-init c = begins-walk (is_order_of c.args.row.now.order.account) (ordered_before c.args.row.now c.args.class) (orders_of c.args.self.now.journal) c.last_order-at.result
    (c.last_order-at.ensures ∙ ap (λ account. last_place (is_order_of account) (orders_of c.args.self.now.journal)) c.number.ensures.value)

pub returns-then-is_before : goal.returns-then-is_before
returns-then-is_before c =
    let step : Steps (is_order_of c.args.row.now.order.account) (ordered_before c.args.row.now c.args.class) (orders_of c.args.self.now.journal) c.in-Some.index = steps (is_order_of c.args.row.now.order.account) (ordered_before c.args.row.now c.args.class) (of-account c.args.row.now c.args.class) (orders_of c.args.self.now.journal) c.in-Some.index (subst (λ (at : Option ℕ). HasCome (is_order_of c.args.row.now.order.account) (ordered_before c.args.row.now c.args.class) (orders_of c.args.self.now.journal) at) c.in-Some.is c.orders.invariant) in
    let item : c.is_before.result ≡ ordered_before c.args.row.now c.args.class step.item = item-passes (ordered_before c.args.row.now c.args.class) (orders_of c.args.self.now.journal) c.orders-in-Some.result.now c.in-Some.index step.item (option_copied c.item_at.result) c.is_before.result c.is_before.ensures c.item_at.ensures c.orders-in-Some.ensures step.there in
    sym (step.rest ∙ ap (λ is. is || list_any (ordered_before c.args.row.now c.args.class) (take c.in-Some.index (orders_of c.args.self.now.journal))) (sym item ∙ c.if-is_before.true))

pub orders-smaller : goal.orders-smaller
orders-smaller c =
    let step : Steps (is_order_of c.args.row.now.order.account) (ordered_before c.args.row.now c.args.class) (orders_of c.args.self.now.journal) c.in-Some.index = steps (is_order_of c.args.row.now.order.account) (ordered_before c.args.row.now c.args.class) (of-account c.args.row.now c.args.class) (orders_of c.args.self.now.journal) c.in-Some.index (subst (λ (at : Option ℕ). HasCome (is_order_of c.args.row.now.order.account) (ordered_before c.args.row.now c.args.class) (orders_of c.args.self.now.journal) at) c.in-Some.is c.orders.invariant) in
    subst (λ (at : Option ℕ). option_map_or (λ n. suc n) c.earlier_order-at.result 0 < option_map_or (λ n. suc n) at 0) (sym c.in-Some.is)
    (smaller (is_order_of c.args.row.now.order.account) (orders_of c.args.self.now.journal) c.in-Some.index c.earlier_order-at.result
    (same-account c.args.row.now.order.account (orders_of c.args.self.now.journal) c.in-Some.index step.item c.earlier_order-at.result step.tested (c.earlier_order-at.ensures step.item step.there)))

pub orders-preserved : goal.orders-preserved
orders-preserved c =
    let step : Steps (is_order_of c.args.row.now.order.account) (ordered_before c.args.row.now c.args.class) (orders_of c.args.self.now.journal) c.in-Some.index = steps (is_order_of c.args.row.now.order.account) (ordered_before c.args.row.now c.args.class) (of-account c.args.row.now c.args.class) (orders_of c.args.self.now.journal) c.in-Some.index (subst (λ (at : Option ℕ). HasCome (is_order_of c.args.row.now.order.account) (ordered_before c.args.row.now c.args.class) (orders_of c.args.self.now.journal) at) c.in-Some.is c.orders.invariant) in
    let item : c.is_before.result ≡ ordered_before c.args.row.now c.args.class step.item = item-passes (ordered_before c.args.row.now c.args.class) (orders_of c.args.self.now.journal) c.orders-in-Some.result.now c.in-Some.index step.item (option_copied c.item_at.result) c.is_before.result c.is_before.ensures c.item_at.ensures c.orders-in-Some.ensures step.there in
    goes-on (is_order_of c.args.row.now.order.account) (ordered_before c.args.row.now c.args.class) (orders_of c.args.self.now.journal) c.in-Some.index c.earlier_order-at.result step (sym item ∙ c.if-is_before.false)
    (same-account c.args.row.now.order.account (orders_of c.args.self.now.journal) c.in-Some.index step.item c.earlier_order-at.result step.tested (c.earlier_order-at.ensures step.item step.there))

pub returns : goal.returns
returns c = sym (ends-walk (is_order_of c.args.row.now.order.account) (ordered_before c.args.row.now c.args.class) (of-account c.args.row.now c.args.class) (orders_of c.args.self.now.journal) (subst (λ (at : Option ℕ). HasCome (is_order_of c.args.row.now.order.account) (ordered_before c.args.row.now c.args.class) (orders_of c.args.self.now.journal) at) c.in_default.is c.orders.invariant))
