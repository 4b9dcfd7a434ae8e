-- What the index keeps.
use Rattle.std.specs.Prelude.{length, vec_capacity, ◌+◌, ◌≤◌}
use Rattle.standing_orders.specs.Chains.{HasChainRoom, KeepsOwners}
use Rattle.standing_orders.specs.Index.{OrderPlaces}
use Rattle.standing_orders.specs.Places.{RisesWithin}
use Rattle.standing_orders.specs.declared.household_orders.HouseholdOrders.TheInside.{Inside}

abbrev pub order_places : Inside → OrderPlaces
order_places index = record { owners = index.chains.owners.items; waiting = index.waiting.items; spare = index.spare }

pub record IsKept (index : Inside) : Type 0 where
  pub chains : KeepsOwners index.chains index.chains.owners.items
  pub rises : RisesWithin 0 (length index.chains.owners.items) index.waiting.items
  pub chain_room : HasChainRoom index.chains index.spare
  pub waiting_room : length index.chains.owners.items + index.spare ≤ vec_capacity index.waiting
