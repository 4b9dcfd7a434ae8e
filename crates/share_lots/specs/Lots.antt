-- The lots of a position: what was bought or reinvested, by date and cost. The order of a redemption is the usual one
-- of a load fund's prospectus: shares free of a deferred charge first, and then those held longest.
use Rattle.std.specs.Prelude.{ℕ, ◌+◌, ◌-◌, ◌<◌, ◌≤◌, ◌≢◌, ◌≡◌, Bool, true, false, not, ◌&&◌, ◌||◌, ◌==◌, nat_lt, if◌then◌else◌, List, ◌∷◌, ◌++◌, map, filter, sum_by, find, Option, Some, None, option_map, All, AllPairs, []}
use Rattle.share_lots.specs.declared.lot.Lot.{Lot}

-- loose and held mils together
abbrev pub mils : Lot → ℕ
mils lot = lot.loose + lot.held

-- the earlier date comes first, and at equal dates the smaller number
abbrev pub before_by_date : Lot → Lot → Bool
before_by_date lot other =
    nat_lt lot.day other.day || (lot.day == other.day && nat_lt lot.number other.number)

-- the free lot comes first, and then it goes by date and number
abbrev pub ranks_before : Lot → Lot → Bool
ranks_before lot other = not other.free && (lot.free || before_by_date lot other)

-- lots by rank, of which one at most is free
abbrev pub AreRanked : List Lot → Type 0
AreRanked lots = AllPairs (λ a b. ranks_before a b ≡ true) lots

-- the lots of one account and class by rank, and the number of the next lot
pub record Holding : Type 0 where
  pub lots : List Lot
  pub next_lot : ℕ

abbrev pub loose_total : Holding → ℕ
loose_total h = sum_by (λ lot. lot.loose) h.lots

abbrev pub held_total : Holding → ℕ
held_total h = sum_by (λ lot. lot.held) h.lots

abbrev pub cost_total : Holding → ℕ
cost_total h = sum_by (λ lot. lot.cost) h.lots

-- the greatest position: mils, and cents of cost
abbrev pub most_mils : ℕ
most_mils = 1000000000000

abbrev pub most_cost : ℕ
most_cost = 1000000000000000

-- a lot of a position: it has mils, and keeps the greatest position
pub record IsLot (lot : Lot) : Type 0 where
  pub with_mils : 1 ≤ mils lot
  pub few_mils : mils lot ≤ most_mils
  pub low_cost : lot.cost ≤ most_cost

-- what holds of every position: numbers from 1 that differ and are below the next one, lots by rank (so that one at
-- most is free), no lot without mils, and no more than the greatest position
pub record IsHolding (h : Holding) : Type 0 where
  pub next_number : 1 ≤ h.next_lot
  pub numbered : All (λ lot. 1 ≤ lot.number) h.lots
  pub below_next : All (λ lot. lot.number < h.next_lot) h.lots
  pub distinct : AllPairs (λ a b. a.number ≢ b.number) h.lots
  pub ranked : AreRanked h.lots
  pub with_mils : All (λ lot. 1 ≤ mils lot) h.lots
  pub few_mils : sum_by mils h.lots ≤ most_mils
  pub low_cost : sum_by (λ lot. lot.cost) h.lots ≤ most_cost

-- the lot with a number keeps so many of its loose mils back
abbrev pub hold_in : ℕ → ℕ → Lot → Lot
hold_in number quantity lot =
    if lot.number == number then record lot { loose = lot.loose - quantity; held = lot.held + quantity } else lot

abbrev pub hold_mils : Holding → ℕ → ℕ → Holding
hold_mils h number quantity = record { lots = map (hold_in number quantity) h.lots; next_lot = h.next_lot }

-- the lot with a number has so many loose mils
abbrev pub HasLoose : List Lot → ℕ → ℕ → Type 0
HasLoose lots number quantity = All (λ lot. lot.number ≡ number → quantity ≤ lot.loose) lots

-- all held mils become loose
abbrev pub release_lot : Lot → Lot
release_lot lot = record lot { loose = lot.loose + lot.held; held = 0 }

abbrev pub release_all : Holding → Holding
release_all h = record { lots = map release_lot h.lots; next_lot = h.next_lot }

-- mils and cost join the free lot, which keeps its number and date
abbrev pub join_free : ℕ → ℕ → Lot → Lot
join_free quantity cents lot =
    if lot.free then record lot { loose = lot.loose + quantity; cost = lot.cost + cents } else lot

abbrev pub holding_joined : Holding → ℕ → ℕ → Holding
holding_joined h quantity cents = record { lots = map (join_free quantity cents) h.lots; next_lot = h.next_lot }

-- a lot in its place by rank
abbrev pub lots_with : Lot → List Lot → List Lot
lots_with lot lots =
    filter (λ other. ranks_before other lot) lots ++ lot ∷ filter (λ other. not (ranks_before other lot)) lots

-- a new lot, with the next number
abbrev pub with_lot : Holding → Lot → Holding
with_lot h lot = record { lots = lots_with lot h.lots; next_lot = h.next_lot + 1 }

-- the number of the free lot, where there is one
abbrev pub free_number : List Lot → Option ℕ
free_number lots = option_map (λ lot. lot.number) (find (λ lot. lot.free) lots)

-- what an addition answers and leaves
pub record Added : Type 0 where
  pub number : ℕ
  pub holding : Holding

abbrev pub new_lot : Holding → ℕ → ℕ → ℕ → Bool → Lot
new_lot h day quantity cents free =
    record { number = h.next_lot; day = day; loose = quantity; held = 0; cost = cents; free = free }

-- free mils join the free lot, where there is one; all else makes a new lot, with the next number
abbrev pub added_to : Holding → Lot → Option ℕ → Added
added_to h lot None = record { number = h.next_lot; holding = with_lot h lot }
added_to h lot (Some number) = record { number = number; holding = holding_joined h lot.loose lot.cost }

-- the free lot that free mils join
abbrev pub lot_joined : List Lot → Bool → Option ℕ
lot_joined lots free = if free then free_number lots else None

abbrev pub shares_added : Holding → ℕ → ℕ → ℕ → Bool → Added
shares_added h day quantity cents free = added_to h (new_lot h day quantity cents free) (lot_joined h.lots free)

-- lots put in their places one by one
unfoldable pub placed_all : List Lot → List Lot → List Lot
placed_all places [] = places
placed_all places (lot ∷ lots) = placed_all (lots_with lot places) lots

-- the lots of a position by rank
abbrev pub ranked_lots : List Lot → List Lot
ranked_lots lots = placed_all [] lots

-- lots that make a position, by number
pub record IsLotList (lots : List Lot) (next : ℕ) : Type 0 where
  pub next_number : 1 ≤ next
  pub numbered : All (λ lot. 1 ≤ lot.number) lots
  pub below_next : All (λ lot. lot.number < next) lots
  pub rising : AllPairs (λ a b. a.number < b.number) lots
  pub one_free : AllPairs (λ a b. a.free ≡ true → b.free ≡ false) lots
  pub with_mils : All (λ lot. 1 ≤ mils lot) lots
  pub few_mils : sum_by mils lots ≤ most_mils
  pub low_cost : sum_by (λ lot. lot.cost) lots ≤ most_cost
