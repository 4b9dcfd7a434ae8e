-- That `HouseholdOrders::leave_taken` keeps its contract.
use Rattle.std.proofs.Common.{List, arith, length, refl, subst, sym, ℕ}
use Rattle.register_machine.specs.pricing.CorrectedOrders.{orders_of}
use Rattle.standing_orders.proofs.IndexKept.{waits-kept}
use Rattle.standing_orders.proofs.RisingPlaces.{rises-filter}
use Rattle.standing_orders.specs.Places.{RisesWithin, passes_at}
use Rattle.standing_orders.specs.Rows.{stays}
use Rattle.standing_orders.proofs.household_orders.HouseholdOrders.leave_taken.Goals as goal

pub invariant_of-self : goal.invariant_of-self
invariant_of-self c =
    waits-kept c.self.inside (record { chains = c.self.inside.chains; waiting = c.keep_staying.new.places; spare = c.self.inside.spare }) refl refl
    (subst (λ (places : List ℕ). RisesWithin 0 (length c.self.inside.chains.owners.items) places) (sym c.keep_staying.ensures.items)
    (rises-filter (passes_at (stays c.args.sheet c.args.prices.now.table.sheets) (orders_of c.args.book.now.journal)) 0 (length c.self.inside.chains.owners.items) c.self.inside.waiting.items c.self.invariant.rises))
    (omega (arith, c.keep_staying.ensures.capacity)) c.self.invariant
