-- That `is_naming` keeps its contract.
use Rattle.std.proofs.Common.{Option, subst, suc, sym, ℕ, ◌<◌, ◌∙◌}
use Rattle.std.specs.Option.{option_map_or}
use Rattle.desk_books.proofs.NamedOwners.{HasPassed, begins-passing, ends-found, ends-passing, falls-back, goes-on}
use Rattle.desk_books.proofs.naming.is_naming.Goals as goal

pub orders-init : goal.orders-init
orders-init c = begins-passing c.args.class c.args.household c.args.rows.now c.args.index.now.owners c.last_order-at.result c.last_order-at.ensures

pub returns-then-names_at : goal.returns-then-names_at
returns-then-names_at c =
    ends-found c.args.class c.args.household c.args.rows.now c.args.index.now.owners c.in-Some.place
    (subst (λ (at : Option ℕ). HasPassed c.args.class c.args.household c.args.rows.now c.args.index.now.owners at) c.in-Some.is c.orders.invariant)
    (sym c.names_at.ensures ∙ c.if-names_at.true)

pub orders-smaller : goal.orders-smaller
orders-smaller c =
    subst (λ (at : Option ℕ). option_map_or (λ n. suc n) c.earlier_order-at.result 0 < option_map_or (λ n. suc n) at 0) (sym c.in-Some.is)
    (falls-back c.args.class c.args.household c.args.rows.now c.args.index.now.owners c.in-Some.place c.earlier_order-at.result
    (subst (λ (at : Option ℕ). HasPassed c.args.class c.args.household c.args.rows.now c.args.index.now.owners at) c.in-Some.is c.orders.invariant)
    c.earlier_order-at.ensures)

pub orders-preserved : goal.orders-preserved
orders-preserved c =
    goes-on c.args.class c.args.household c.args.rows.now c.args.index.now.owners c.in-Some.place c.earlier_order-at.result
    (subst (λ (at : Option ℕ). HasPassed c.args.class c.args.household c.args.rows.now c.args.index.now.owners at) c.in-Some.is c.orders.invariant)
    (sym c.names_at.ensures ∙ c.if-names_at.false) c.earlier_order-at.ensures

pub returns : goal.returns
returns c =
    ends-passing c.args.class c.args.household c.args.rows.now c.args.index.now.owners
    (subst (λ (at : Option ℕ). HasPassed c.args.class c.args.household c.args.rows.now c.args.index.now.owners at) c.in_default.is c.orders.invariant)
