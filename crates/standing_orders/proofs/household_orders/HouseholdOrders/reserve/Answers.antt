-- That `HouseholdOrders::reserve` keeps its contract.
use Rattle.std.proofs.Common.{arith, refl}
use Rattle.standing_orders.proofs.IndexKept.{reserved-kept}
use Rattle.standing_orders.proofs.household_orders.HouseholdOrders.reserve.Goals as goal

pub invariant_of-self : goal.invariant_of-self
invariant_of-self c =
    reserved-kept c.self.inside (record { chains = c.reserve.new.self; waiting = c.self.inside.waiting; spare = c.self.inside.spare })
    c.reserve.ensures.same refl (c.reserve.ensures.kept c.self.inside.spare c.self.invariant.chain_room) c.self.invariant.waiting_room c.self.invariant

pub invariant_of-self-in_err-reserve_up_to : goal.invariant_of-self-in_err-reserve_up_to
invariant_of-self-in_err-reserve_up_to c =
    reserved-kept c.self.inside (record { chains = c.reserve.new.self; waiting = c.reserve_up_to.new.places; spare = c.self.inside.spare })
    c.reserve.ensures.same c.reserve_up_to.ensures.items (c.reserve.ensures.kept c.self.inside.spare c.self.invariant.chain_room) (omega (arith, c.self.invariant.waiting_room, c.reserve_up_to.ensures.capacity)) c.self.invariant

pub invariant_of-self-else-self-orders : goal.invariant_of-self-else-self-orders
invariant_of-self-else-self-orders c =
    reserved-kept c.self.inside (record { chains = c.reserve.new.self; waiting = c.reserve_up_to.new.places; spare = c.self.inside.spare })
    c.reserve.ensures.same c.reserve_up_to.ensures.items (c.reserve.ensures.kept c.self.inside.spare c.self.invariant.chain_room) (omega (arith, c.self.invariant.waiting_room, c.reserve_up_to.ensures.capacity)) c.self.invariant
