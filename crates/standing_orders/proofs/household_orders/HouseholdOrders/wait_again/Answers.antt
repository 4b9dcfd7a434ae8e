-- That `HouseholdOrders::wait_again` keeps its contract.
use Rattle.std.proofs.Common.{ap, arith, length, refl, subst, sym, vec_capacity, List, ℕ, ◌<◌}
use Rattle.standing_orders.proofs.IndexKept.{waits-kept}
use Rattle.standing_orders.proofs.RisingPlaces.{rises-to, rises-with}
use Rattle.standing_orders.specs.Index.{OrderPlaces}
use Rattle.standing_orders.specs.Places.{RisesWithin}
use Rattle.standing_orders.proofs.household_orders.HouseholdOrders.wait_again.Goals as goal

pub put_among-requires-clause-rises : goal.put_among-requires-clause-rises
put_among-requires-clause-rises c =
    rises-to 0 (length c.self.inside.chains.owners.items) (vec_capacity c.self.inside.waiting) c.self.inside.waiting.items (omega (arith, c.self.invariant.waiting_room)) c.self.invariant.rises

pub invariant_of-self : goal.invariant_of-self
invariant_of-self c =
    let within : c.args.place < length c.self.inside.chains.owners.items = omega (arith, c.requires, ap (λ (index : OrderPlaces). length index.owners) c.self.view_is) in
    waits-kept c.self.inside (record { chains = c.self.inside.chains; waiting = c.put_among.new.places; spare = c.self.inside.spare }) refl refl
    (subst (λ (places : List ℕ). RisesWithin 0 (length c.self.inside.chains.owners.items) places) (sym c.put_among.ensures.items)
    (rises-with c.args.place 0 (length c.self.inside.chains.owners.items) c.self.inside.waiting.items (omega arith) within c.self.invariant.rises))
    c.put_among.ensures.capacity c.self.invariant
