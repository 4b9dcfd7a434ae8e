-- That `HouseholdOrders::settle` keeps its contract.
use Rattle.std.proofs.Common.{List, arith, length, refl, subst, sym, vec_capacity, ℕ}
use Rattle.register_machine.specs.pricing.CorrectedOrders.{orders_of}
use Rattle.standing_orders.proofs.IndexKept.{waits-kept}
use Rattle.standing_orders.proofs.RisingPlaces.{rises-filter, rises-to}
use Rattle.standing_orders.specs.Places.{RisesWithin, is_other_or_passes}
use Rattle.standing_orders.specs.Rows.{waits}
use Rattle.standing_orders.proofs.household_orders.HouseholdOrders.settle.Goals as goal

pub settle_among-requires : goal.settle_among-requires
settle_among-requires c =
    rises-to 0 (length c.self.inside.chains.owners.items) (vec_capacity c.self.inside.waiting) c.self.inside.waiting.items (omega (arith, c.self.invariant.waiting_room)) c.self.invariant.rises

pub invariant_of-self : goal.invariant_of-self
invariant_of-self c =
    waits-kept c.self.inside (record { chains = c.self.inside.chains; waiting = c.settle_among.new.places; spare = c.self.inside.spare }) refl refl
    (subst (λ (places : List ℕ). RisesWithin 0 (length c.self.inside.chains.owners.items) places) (sym c.settle_among.ensures.items)
    (rises-filter (is_other_or_passes (waits c.args.prices.now.table.sheets) (orders_of c.args.book.now.journal) c.args.place) 0 (length c.self.inside.chains.owners.items) c.self.inside.waiting.items c.self.invariant.rises))
    (omega (arith, c.settle_among.ensures.capacity)) c.self.invariant
