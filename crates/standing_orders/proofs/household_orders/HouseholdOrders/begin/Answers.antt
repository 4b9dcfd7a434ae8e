-- That `HouseholdOrders::begin` keeps its contract.
use Rattle.std.proofs.Common.{ap, arith, length, vec_capacity, ℕ, [], ◌++◌, ◌-◌, ◌∙◌, ◌∷◌, refl}
use Rattle.standing_orders.proofs.IndexKept.{begun-kept}
use Rattle.standing_orders.proofs.RisingPlaces.{rises-to, with-behind}
use Rattle.standing_orders.specs.Index.{OrderPlaces}
use Rattle.standing_orders.specs.Places.{with_place}
use Rattle.standing_orders.proofs.household_orders.HouseholdOrders.begin.Goals as goal

pub put_among-requires-clause-rises : goal.put_among-requires-clause-rises
put_among-requires-clause-rises c =
    rises-to 0 (length c.self.inside.chains.owners.items) (vec_capacity c.self.inside.waiting) c.self.inside.waiting.items (omega (arith, c.self.invariant.waiting_room)) c.self.invariant.rises

pub invariant_of-self : goal.invariant_of-self
invariant_of-self c =
    begun-kept c.self.inside (record { chains = c.push.new.self; waiting = c.put_among.new.places; spare = c.self.inside.spare - 1 }) c.args.household
    c.push.ensures.kept c.push.ensures.room (c.put_among.ensures.items ∙ ap (λ (n : ℕ). with_place n c.self.inside.waiting.items) (ap length c.as_slice-behind.ensures.value))
    (omega (arith, c.requires, ap (λ (index : OrderPlaces). index.spare) c.self.view_is)) refl c.put_among.ensures.capacity c.self.invariant

pub returns-clause-waiting : goal.returns-clause-waiting
returns-clause-waiting c =
    c.put_among.ensures.items
    ∙ (ap (λ (n : ℕ). with_place n c.self.inside.waiting.items) (ap length c.as_slice-behind.ensures.value)
    ∙ (with-behind 0 (length c.self.inside.chains.owners.items) c.self.inside.waiting.items c.self.invariant.rises
    ∙ ap (λ (index : OrderPlaces). index.waiting ++ length index.owners ∷ []) c.self.view_is))
