-- The contingent deferred sales charge of a redemption. A deferred load may not exceed a percentage of the net asset value
-- or the offering price at the time of purchase (17 CFR 270.6c-10(a)(1)), so that it is taken on the lesser of what the
-- shares cost and what they are worth, at a rate that falls with the years since the purchase (Form N-1A, Item 12(a)).
use Rattle.std.specs.Prelude.{ℕ, ◌+◌, ◌-◌, ◌*◌, ◌≤◌, min, if◌then◌else◌, List, [], ◌∷◌, slice_index, AllPairs, sum_by}
use Rattle.money_units.specs.Rounding.{half}
use Rattle.fund_calendar.specs.Dates.{anniversaries}
use Rattle.share_lots.specs.declared.lot.Piece.{Piece}
use Rattle.share_lots.specs.Values.{value_at}
use Rattle.contingent_charge.specs.declared.charging.Charged.{Charged}

-- the rate of shares of a purchase on the day of their sale: the row of the schedule that is as far down as the number of
-- anniversaries of the purchase that have come, and 0 past the schedule
abbrev pub rate_on : ℕ → ℕ → List ℕ → ℕ
rate_on bought sold schedule = slice_index schedule (anniversaries bought sold)

-- no later year has a greater rate
abbrev pub NeverRises : List ℕ → Type 0
NeverRises schedule = AllPairs (λ earlier later. later ≤ earlier) schedule

-- the value of mils with so many before them: what those at their end are worth together, less those at their beginning
abbrev pub value_between : ℕ → ℕ → ℕ → ℕ
value_between nav before mils = value_at nav (before + mils) - value_at nav before

-- a piece of a redemption and its value
pub record Valued : Type 0 where
  pub piece : Piece
  pub value : ℕ

-- the pieces of a redemption with their values, where so many mils come before them
unfoldable pub with_values : ℕ → ℕ → List Piece → List Valued
with_values nav before [] = []
with_values nav before (piece ∷ pieces) =
    record { piece = piece; value = value_between nav before piece.mils } ∷ with_values nav (before + piece.mils) pieces

-- what a piece is charged on: the lesser of its cost and its value, and nothing where it is free
abbrev pub base_of : Valued → ℕ
base_of item = if item.piece.free then 0 else min item.piece.cost item.value

-- the charge of a piece: what its rate takes of the lesser of its cost and its value, and nothing where it is free
abbrev pub charge_of : ℕ → List ℕ → Valued → ℕ
charge_of day schedule item =
    if item.piece.free then 0
    else half (min item.piece.cost item.value * rate_on item.piece.day day schedule) 10000

-- the sums over pieces with their values
abbrev pub sums_of_pieces : ℕ → List ℕ → List Valued → Charged
sums_of_pieces day schedule items = record {
  value = sum_by (λ (item : Valued). item.value) items;
  base = sum_by base_of items;
  charge = sum_by (charge_of day schedule) items;
}

-- a redemption of these pieces at this net asset value, on this day
abbrev pub charge_of_pieces : List Piece → ℕ → ℕ → List ℕ → Charged
charge_of_pieces pieces nav day schedule = sums_of_pieces day schedule (with_values nav 0 pieces)

-- what the rate of a piece takes of its whole cost
abbrev pub cost_charge : ℕ → List ℕ → Piece → ℕ
cost_charge day schedule piece = half (piece.cost * rate_on piece.day day schedule) 10000

-- the most that may be charged: what the rates take of what the shares cost
abbrev pub most_charged : List Piece → ℕ → List ℕ → ℕ
most_charged pieces day schedule = sum_by (cost_charge day schedule) pieces
