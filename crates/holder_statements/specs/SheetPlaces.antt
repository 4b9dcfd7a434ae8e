-- The place at which the trades of one sheet begin.
use Rattle.std.specs.List.Sorted.{IsPartitionPoint}
use Rattle.std.specs.Option.{option_map_or}
use Rattle.std.specs.Prelude.{Bool, List, Some, false, find, nat_lt, not, option_map, slice_get, true, ℕ, ◌&&◌, ◌-◌, ◌==◌, ◌||◌, ◌≡◌}
use Rattle.agent_events.specs.declared.trade.Trade.{Trade}
use Rattle.register_machine.specs.rules.Breaks.{is_trade_of}

-- what stands before a place is on an earlier sheet, and what stands from it on isn't
abbrev pub IsPlaceOf : ℕ → List Trade → ℕ → Type 0
IsPlaceOf sheet trades place =
    IsPartitionPoint (λ trade. nat_lt trade.sheet sheet ≡ true) (λ trade. nat_lt trade.sheet sheet ≡ false) trades place

-- whether there is a trade at a place, and on an earlier sheet
abbrev pub is_earlier_at : ℕ → List Trade → ℕ → Bool
is_earlier_at sheet trades place =
    option_map_or (λ trade. nat_lt trade.sheet sheet) (slice_get trades place) false

-- whether the trade before a place, where there is one, is on an earlier sheet
abbrev pub follows_earlier : ℕ → List Trade → ℕ → Bool
follows_earlier sheet trades place = place == 0 || is_earlier_at sheet trades (place - 1)

-- whether it is, and the trade at the place isn't
abbrev pub parts_at : ℕ → List Trade → ℕ → Bool
parts_at sheet trades place =
    follows_earlier sheet trades place && not (is_earlier_at sheet trades place)

-- the first trade of an order is on this sheet
abbrev pub IsTradedOn : ℕ → ℕ → ℕ → List Trade → Type 0
IsTradedOn sheet account ref_no trades =
    option_map (λ trade. trade.sheet) (find (is_trade_of account ref_no) trades) ≡ Some sheet
