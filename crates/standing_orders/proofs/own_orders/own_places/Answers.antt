-- That `own_places` keeps its contract.
use Rattle.std.proofs.Common.{Option, ap, subst, suc, sym, ℕ, ◌<◌, ◌∙◌}
use Rattle.std.specs.Option.{option_map_or}
use Rattle.standing_orders.proofs.OwnPlaces.{HasWalked, begins-walk, ends-walk, falls-back, goes-back, next-own}
use Rattle.standing_orders.specs.Places.{unless_before}
use Rattle.standing_orders.specs.Rows.{is_owner}
use Rattle.standing_orders.proofs.own_orders.own_places.Goals as goal

pub orders-init : goal.orders-init
orders-init c =
    subst (λ places. HasWalked c.args.first (is_owner c.args.household) c.args.index.now.owners places c.unless_before-at.result) (sym c.new-places.ensures.items)
    (begins-walk c.args.first (is_owner c.args.household) c.args.index.now.owners c.unless_before-at.result (c.unless_before-at.ensures ∙ ap (unless_before c.args.first) c.last_order.ensures))

pub orders-smaller : goal.orders-smaller
orders-smaller c =
    let walked = subst (λ (at : Option ℕ). HasWalked c.args.first (is_owner c.args.household) c.args.index.now.owners c.orders.places.items at) c.in-Some.is c.orders.invariant in
    subst (λ (at : Option ℕ). option_map_or (λ n. suc n) c.unless_before-at-in-Some.result 0 < option_map_or (λ n. suc n) at 0) (sym c.in-Some.is)
    (falls-back c.args.first (is_owner c.args.household) c.args.index.now.owners c.in-Some.place c.unless_before-at-in-Some.result
    (c.unless_before-at-in-Some.ensures ∙ ap (unless_before c.args.first) (next-own c.args.first c.args.household c.args.index.now.owners c.orders.places.items c.in-Some.place c.earlier_order.result walked c.earlier_order.ensures)))

pub orders-preserved : goal.orders-preserved
orders-preserved c =
    let walked = subst (λ (at : Option ℕ). HasWalked c.args.first (is_owner c.args.household) c.args.index.now.owners c.orders.places.items at) c.in-Some.is c.orders.invariant in
    subst (λ places. HasWalked c.args.first (is_owner c.args.household) c.args.index.now.owners places c.unless_before-at-in-Some.result) (sym c.in_ok-push.ensures.items)
    (goes-back c.args.first (is_owner c.args.household) c.args.index.now.owners c.orders.places.items c.in-Some.place c.unless_before-at-in-Some.result walked
    (c.unless_before-at-in-Some.ensures ∙ ap (unless_before c.args.first) (next-own c.args.first c.args.household c.args.index.now.owners c.orders.places.items c.in-Some.place c.earlier_order.result walked c.earlier_order.ensures)))

pub returns : goal.returns
returns c =
    c.reverse.ensures.items
    ∙ ends-walk c.args.first (is_owner c.args.household) c.args.index.now.owners c.orders.places.items
    (subst (λ (at : Option ℕ). HasWalked c.args.first (is_owner c.args.household) c.args.index.now.owners c.orders.places.items at) c.in_default.is c.orders.invariant)
