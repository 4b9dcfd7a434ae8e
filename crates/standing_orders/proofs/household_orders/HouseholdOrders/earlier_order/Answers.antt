-- That `HouseholdOrders::earlier_order` keeps its contract.
use Rattle.std.proofs.Common.{List, Option, ap, take, ℕ, ◌∙◌, ◌≡◌}
use Rattle.std.specs.List.{slice_get}
use Rattle.std.specs.Prelude.{option_and_then}
use Rattle.order_book.specs.LastPlaces.{last_place}
use Rattle.standing_orders.proofs.OwnerChains.{earlier-owned}
use Rattle.standing_orders.specs.Index.{OrderPlaces}
use Rattle.standing_orders.specs.Rows.{is_owner}
use Rattle.standing_orders.proofs.household_orders.HouseholdOrders.earlier_order.Goals as goal

pub returns : goal.returns
returns c = λ owner there.
    let owners : c.self.inside.chains.owners.items ≡ c.args.self.now.owners = ap (λ (index : OrderPlaces). index.owners) c.self.view_is in
    c.earlier.ensures
    ∙ (ap (λ (places : List (Option ℕ)). option_and_then (λ f. f) (slice_get places c.args.place)) c.self.invariant.chains.earlier
    ∙ (earlier-owned c.self.inside.chains.owners.items c.args.place owner (ap (λ all. slice_get all c.args.place) owners ∙ there)
    ∙ ap (λ all. last_place (is_owner owner) (take c.args.place all)) owners))
