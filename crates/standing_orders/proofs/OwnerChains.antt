-- The chains of households, once one order more is begun, and the orders that they lead to.
use Rattle.std.proofs.Common.{List, Option, Some, [], ap, append-nil, append_assoc, cond, length, nat_eq, suc, sym, take, zero, ℕ, ◌++◌, ◌∙◌, ◌∷◌, ◌≡◌}
use Rattle.std.specs.HashMap.{get}
use Rattle.std.specs.List.{slice_get}
use Rattle.std.specs.Option.{option_map_or}
use Rattle.std.specs.Prelude.{option_and_then}
use Rattle.order_book.proofs.Names.{last-more}
use Rattle.order_book.specs.LastPlaces.{last_place}
use Rattle.standing_orders.specs.Chains.{KeepsOwners, earlier_from}
use Rattle.standing_orders.specs.Rows.{is_owner}
use Rattle.standing_orders.specs.declared.chains.Chains.{Chains}

pub earlier-more : (before owners : List ℕ) (owner : ℕ) → earlier_from before (owners ++ owner ∷ []) ≡ earlier_from before owners ++ last_place (is_owner owner) (before ++ owners) ∷ []
earlier-more before [] owner = ap (λ all. last_place (is_owner owner) all ∷ []) (sym (append-nil before))
earlier-more before (first ∷ owners) owner =
    ap (λ later. last_place (is_owner first) before ∷ later)
    (earlier-more (before ++ first ∷ []) owners owner
    ∙ ap (λ all. earlier_from (before ++ first ∷ []) owners ++ last_place (is_owner owner) all ∷ []) (append_assoc before (first ∷ []) owners))

-- one order more
pub chains-pushed : (old new : Chains) (owners : List ℕ) (owner place : ℕ) (before : Option ℕ)
    → place ≡ length old.owners.items → KeepsOwners old owners → before ≡ get nat_eq old.last owner
    → ((q : ℕ) → get nat_eq new.last q ≡ cond (nat_eq owner q) (Some place) (get nat_eq old.last q))
    → new.earlier.items ≡ old.earlier.items ++ before ∷ []
    → new.owners.items ≡ old.owners.items ++ owner ∷ []
    → KeepsOwners new (owners ++ owner ∷ [])
chains-pushed old new owners owner place before at kept before_is put_last pushed owned = record {
  households = owned ∙ ap (λ all. all ++ owner ∷ []) kept.households;
  last = λ q.
      put_last q
      ∙ (ap (λ (found : Option ℕ). cond (nat_eq owner q) (Some place) found) (kept.last q)
      ∙ (ap (λ n. cond (nat_eq owner q) (Some n) (last_place (is_owner q) owners)) (at ∙ ap length kept.households)
      ∙ sym (last-more (is_owner q) owners owner)));
  earlier =
      pushed
      ∙ (ap (λ (all : List (Option ℕ)). all ++ before ∷ []) kept.earlier
      ∙ (ap (λ (found : Option ℕ). earlier_from [] owners ++ found ∷ []) (before_is ∙ kept.last owner)
      ∙ sym (earlier-more [] owners owner)));
}

earlier-at : (before owners : List ℕ) (index owner : ℕ) → slice_get owners index ≡ Some owner → option_and_then (λ found. found) (slice_get (earlier_from before owners) index) ≡ last_place (is_owner owner) (before ++ take index owners)
earlier-at before [] index owner is = cc
earlier-at before (first ∷ owners) zero owner is =
    ap (λ (found : Option ℕ). last_place (is_owner (option_map_or (λ n. n) found 0)) before) is
    ∙ ap (λ all. last_place (is_owner owner) all) (sym (append-nil before))
earlier-at before (first ∷ owners) (suc index) owner is =
    earlier-at (before ++ first ∷ []) owners index owner is
    ∙ ap (λ all. last_place (is_owner owner) all) (append_assoc before (first ∷ []) (take index owners))

-- the link at a place leads to the last one of the same household before it
pub earlier-owned : (owners : List ℕ) (index owner : ℕ) → slice_get owners index ≡ Some owner → option_and_then (λ found. found) (slice_get (earlier_from [] owners) index) ≡ last_place (is_owner owner) (take index owners)
earlier-owned owners index owner is = earlier-at [] owners index owner is
