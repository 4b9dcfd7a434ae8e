-- The trades of the one household that is moved.
use Rattle.std.proofs.Common.{List, [], ap, cond, eq-eqb, sym, take, ℕ, ◌++◌, ◌∷◌, ◌≡◌}
use Rattle.checkpoint_replay.specs.Moves.{day_after_move, part_after}
use Rattle.checkpoint_replay.specs.Parts.{part_in}
use Rattle.checkpoint_replay.specs.declared.change.HouseholdMove.{HouseholdMove}
use Rattle.checkpoint_replay.specs.declared.part.HouseholdPart.{HouseholdPart}

-- its old trades that stay, and the new ones
pub moved_trades : (parts : List (ℕ × HouseholdPart)) (moved : HouseholdMove) (household : ℕ) → moved.household ≡ household → (part_after (moved ∷ []) parts household).trades ≡ take moved.kept (part_in parts household).trades ++ moved.trades
moved_trades parts moved household own =
    ap (λ b. (cond b (day_after_move (part_in parts household) moved) (part_in parts household)).trades) (eq-eqb household moved.household (sym own))
