-- What the index keeps once memory is taken, an order is begun, or another waits.
use Rattle.std.proofs.Common.{List, [], ap, arith, length, length-append, subst, suc, sym, vec_capacity, ℕ, ◌++◌, ◌+◌, ◌-◌, ◌∷◌, ◌≡◌, ◌≤◌}
use Rattle.standing_orders.proofs.RisingPlaces.{rises-to, rises-with}
use Rattle.standing_orders.specs.Chains.{HasChainRoom, KeepsOwners}
use Rattle.standing_orders.specs.Kept.{IsKept}
use Rattle.standing_orders.specs.Places.{RisesWithin, with_place}
use Rattle.standing_orders.specs.declared.chains.Chains.{Chains}
use Rattle.standing_orders.specs.declared.household_orders.HouseholdOrders.TheInside.{Inside}

pub reserved-kept : (old new : Inside) → ((owners : List ℕ) → KeepsOwners old.chains owners → KeepsOwners new.chains owners) → new.waiting.items ≡ old.waiting.items → HasChainRoom new.chains new.spare → length old.chains.owners.items + new.spare ≤ vec_capacity new.waiting → IsKept old → IsKept new
reserved-kept old new same waiting_same room waiting_room kept =
    let chains : KeepsOwners new.chains old.chains.owners.items = same old.chains.owners.items kept.chains in
    let owners : new.chains.owners.items ≡ old.chains.owners.items = chains.households in
    record {
      chains = subst (KeepsOwners new.chains) (sym owners) chains;
      rises = subst (λ (places : List ℕ). RisesWithin 0 (length new.chains.owners.items) places) (sym waiting_same)
          (subst (λ (all : List ℕ). RisesWithin 0 (length all) old.waiting.items) (sym owners) kept.rises);
      chain_room = room;
      waiting_room = subst (λ (all : List ℕ). length all + new.spare ≤ vec_capacity new.waiting) (sym owners) waiting_room;
    }

-- other places wait
pub waits-kept : (old new : Inside) → new.chains ≡ old.chains → new.spare ≡ old.spare → RisesWithin 0 (length old.chains.owners.items) new.waiting.items → vec_capacity old.waiting ≤ vec_capacity new.waiting → IsKept old → IsKept new
waits-kept old new chains_same spare_same rises room kept = record {
  chains = subst (λ (chains : Chains). KeepsOwners chains chains.owners.items) (sym chains_same) kept.chains;
  rises = subst (λ (chains : Chains). RisesWithin 0 (length chains.owners.items) new.waiting.items) (sym chains_same) rises;
  chain_room = subst (λ (chains : Chains). HasChainRoom chains new.spare) (sym chains_same) (subst (λ (n : ℕ). HasChainRoom old.chains n) (sym spare_same) kept.chain_room);
  waiting_room = subst (λ (chains : Chains). length chains.owners.items + new.spare ≤ vec_capacity new.waiting) (sym chains_same) (omega (arith, spare_same, room, kept.waiting_room));
}

-- an order is begun
pub begun-kept : (old new : Inside) (household : ℕ) → ((owners : List ℕ) → KeepsOwners old.chains owners → KeepsOwners new.chains (owners ++ household ∷ [])) → ((n : ℕ) → HasChainRoom old.chains (n + 1) → HasChainRoom new.chains n) → new.waiting.items ≡ with_place (length old.chains.owners.items) old.waiting.items → 1 ≤ old.spare → new.spare ≡ old.spare - 1 → vec_capacity old.waiting ≤ vec_capacity new.waiting → IsKept old → IsKept new
begun-kept old new household pushed chain_room waiting_is some spare_is room kept =
    let chains : KeepsOwners new.chains (old.chains.owners.items ++ household ∷ []) = pushed old.chains.owners.items kept.chains in
    let owners : new.chains.owners.items ≡ old.chains.owners.items ++ household ∷ [] = chains.households in
    let longer : length new.chains.owners.items ≡ suc (length old.chains.owners.items) = omega (arith, ap length owners, length-append old.chains.owners.items (household ∷ [])) in
    let one : old.spare ≡ new.spare + 1 = omega (arith, some, spare_is) in
    record {
      chains = subst (KeepsOwners new.chains) (sym owners) chains;
      rises = subst (λ n. RisesWithin 0 n new.waiting.items) (sym longer)
          (subst (λ (places : List ℕ). RisesWithin 0 (suc (length old.chains.owners.items)) places) (sym waiting_is)
          (rises-with (length old.chains.owners.items) 0 (suc (length old.chains.owners.items)) old.waiting.items (omega arith) (omega arith)
          (rises-to 0 (length old.chains.owners.items) (suc (length old.chains.owners.items)) old.waiting.items (omega arith) kept.rises)));
      chain_room = chain_room new.spare (subst (λ (n : ℕ). HasChainRoom old.chains n) one kept.chain_room);
      waiting_room = omega (arith, longer, one, room, kept.waiting_room);
    }
