-- The chain of each household's orders, back from the last one, over the list of households.
use Rattle.std.specs.HashMap.{get, spare}
use Rattle.std.specs.Prelude.{List, Option, [], nat_eq, vec_capacity, vec_len, ℕ, ◌++◌, ◌+◌, ◌∷◌, ◌≡◌, ◌≤◌}
use Rattle.order_book.specs.LastPlaces.{last_place}
use Rattle.standing_orders.specs.Rows.{is_owner}
use Rattle.standing_orders.specs.declared.chains.Chains.{Chains}

-- the last place before each at which its household stands
abbrev pub earlier_from : List ℕ → List ℕ → List (Option ℕ)
earlier_from before [] = []
earlier_from before (owner ∷ later) = last_place (is_owner owner) before ∷ earlier_from (before ++ owner ∷ []) later

-- what the chains keep of the households
pub record KeepsOwners (chains : Chains) (owners : List ℕ) : Type 0 where
  pub households : chains.owners.items ≡ owners
  pub last : (household : ℕ) → get nat_eq chains.last household ≡ last_place (is_owner household) owners
  pub earlier : chains.earlier.items ≡ earlier_from [] owners

-- so many orders more can be begun
pub record HasChainRoom (chains : Chains) (orders : ℕ) : Type 0 where
  pub owners : vec_len chains.owners + orders ≤ vec_capacity chains.owners
  pub last : orders ≤ spare chains.last
  pub earlier : vec_len chains.earlier + orders ≤ vec_capacity chains.earlier
