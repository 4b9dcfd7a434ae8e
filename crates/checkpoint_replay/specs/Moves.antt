-- What a change makes of the households that it moves, and the room that it takes.
use Rattle.agent_events.specs.declared.totals.Changes.{Changes}
use Rattle.checkpoint_replay.specs.Parts.{Households, part_in}
use Rattle.checkpoint_replay.specs.Totals.{HasTotalsRoom}
use Rattle.checkpoint_replay.specs.declared.change.HouseholdMove.{HouseholdMove}
use Rattle.checkpoint_replay.specs.declared.part.HouseholdPart.{HouseholdPart}
use Rattle.register_machine.specs.replay.Trades.{Day}
use Rattle.std.specs.List.{IsDistinct}
use Rattle.std.specs.Map.{lookup}
use Rattle.std.specs.Prelude.{All, IfSome, List, fold, if◌then◌else◌, length, map, nat_eq, take, vec_capacity, vec_len, ℕ, ◌+◌, ◌++◌, ◌==◌, ◌≡◌, ◌≤◌}

-- the new positions, and the new trades behind the old ones that stay
abbrev pub day_after_move : Day → HouseholdMove → Day
day_after_move day change = record {
  register = change.state.register;
  trades = take change.kept day.trades ++ change.trades;
}

-- the day of a household after a move, which may be another's
abbrev pub day_if_moved : ℕ → Day → HouseholdMove → Day
day_if_moved household day change = if household == change.household then day_after_move day change else day

-- the part of a household after these moves
abbrev pub part_after : List HouseholdMove → List (ℕ × HouseholdPart) → ℕ → Day
part_after moves parts household = fold (day_if_moved household) (part_in parts household) moves

-- the households that are moved, and each of them is moved once
abbrev pub households_of : List HouseholdMove → List ℕ
households_of moves = map (λ change. change.household) moves

abbrev pub AreApart : List HouseholdMove → Type 0
AreApart moves = IsDistinct nat_eq (households_of moves)

-- the new positions are those of the household that is moved
abbrev pub AreOwnMoves : List HouseholdMove → Type 0
AreOwnMoves moves = All (λ change. change.state.number ≡ change.household) moves

pub record AreMoves (moves : List HouseholdMove) : Type 0 where
  pub apart : AreApart moves
  pub own : AreOwnMoves moves

-- a change: the moves that it makes, and what they change of the totals
pub record Moves : Type 0 where
  pub moves : List HouseholdMove
  pub changes : Changes

-- the new trades of a household fit behind its old ones without more memory
abbrev pub HasTradeRoom : List (ℕ × HouseholdPart) → HouseholdMove → Type 0
HasTradeRoom parts change =
    IfSome (lookup (nat_eq change.household) parts)
    (λ part. vec_len part.trades + length change.trades ≤ vec_capacity part.trades)

-- a change fits into a ledger without more memory
pub record HasRoomFor (ledger : Households) (change : Moves) : Type 0 where
  pub households : length change.moves ≤ ledger.room
  pub trades : All (HasTradeRoom ledger.parts) change.moves
  pub totals : HasTotalsRoom ledger.totals change.changes
