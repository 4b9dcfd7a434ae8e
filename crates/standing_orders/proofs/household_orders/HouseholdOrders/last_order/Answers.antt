-- That `HouseholdOrders::last_order` keeps its contract.
use Rattle.std.proofs.Common.{ap, ◌∙◌}
use Rattle.order_book.specs.LastPlaces.{last_place}
use Rattle.standing_orders.specs.Index.{OrderPlaces}
use Rattle.standing_orders.specs.Rows.{is_owner}
use Rattle.standing_orders.proofs.household_orders.HouseholdOrders.last_order.Goals as goal

pub returns : goal.returns
returns c =
    c.last.ensures
    ∙ (c.self.invariant.chains.last c.args.household
    ∙ ap (λ (index : OrderPlaces). last_place (is_owner c.args.household) index.owners) c.self.view_is)
