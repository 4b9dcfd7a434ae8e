-- A household's part of the ledger, and where it is looked up.
use Rattle.checkpoint_replay.specs.Totals.{TotalRows}
use Rattle.checkpoint_replay.specs.declared.part.HouseholdPart.{HouseholdPart}
use Rattle.household_fold.specs.Households.{Household, first_of}
use Rattle.register_machine.specs.replay.Trades.{Day}
use Rattle.std.specs.List.{IsDistinct}
use Rattle.std.specs.Map.{keys_of, lookup}
use Rattle.std.specs.Option.{option_map_or}
use Rattle.std.specs.Prelude.{IfSome, List, None, Option, Some, [], if◌then◌else◌, length, nat_eq, ℕ, ◌==◌, ◌≡◌}

-- a household's positions and trades as a day
abbrev pub day_of : HouseholdPart → Day
day_of part = record { register = part.state.register; trades = part.trades.items }

-- those of a household of which nothing is kept
abbrev pub first_day : Day
first_day = first_of []

-- those of a household, by its number
abbrev pub part_in : List (ℕ × HouseholdPart) → ℕ → Day
part_in parts household = option_map_or day_of (lookup (nat_eq household) parts) first_day

-- each part is that of the household under whose number it stands
abbrev pub AreOwnParts : List (ℕ × HouseholdPart) → Type 0
AreOwnParts parts = (household : ℕ) → IfSome (lookup (nat_eq household) parts) (λ part. part.state.number ≡ household)

-- the parts of a ledger: each household once
pub record AreParts (parts : List (ℕ × HouseholdPart)) : Type 0 where
  pub once : IsDistinct nat_eq (keys_of parts)
  pub own : AreOwnParts parts

-- the state of a household, where anything is kept of it
abbrev pub state_in : List (ℕ × HouseholdPart) → ℕ → Option Household
state_in parts household =
    let register = (part_in parts household).register in
    if length register == 0 then None else Some (record { number = household; register = register })

-- a ledger: its parts by their households, how many households more there is room for, and its totals
pub record Households : Type 0 where
  pub parts : List (ℕ × HouseholdPart)
  pub room : ℕ
  pub totals : TotalRows
