-- The moves that are left still fit, when one of another household was made.
use Rattle.checkpoint_replay.specs.Moves.{HasTradeRoom, households_of}
use Rattle.checkpoint_replay.specs.declared.change.HouseholdMove.{HouseholdMove}
use Rattle.checkpoint_replay.specs.declared.part.HouseholdPart.{HouseholdPart}
use Rattle.std.proofs.Common.{List, Option, [], false, length, nat_eq, subst, sym, ℕ, ◌+◌, ◌∷◌, ◌≡◌, ◌≤◌}
use Rattle.std.specs.List.{AllByRecursion}
use Rattle.std.specs.Map.{lookup}
use Rattle.std.specs.Prelude.{IfSome, vec_capacity, vec_len}

pub rooms-left : (old new : List (ℕ × HouseholdPart)) (household : ℕ) (rest : List HouseholdMove) → ((other : ℕ) → nat_eq household other ≡ false → lookup (nat_eq other) new ≡ lookup (nat_eq other) old) → AllByRecursion (λ other. nat_eq household other ≡ false) (households_of rest) → AllByRecursion (HasTradeRoom old) rest → AllByRecursion (HasTradeRoom new) rest
rooms-left old new household [] others apart rooms = tt
rooms-left old new household (change ∷ rest) others apart rooms = (
  subst (λ (found : Option HouseholdPart). IfSome found (λ part. vec_len part.trades + length change.trades ≤ vec_capacity part.trades)) (sym (others change.household apart.0)) rooms.0,
  rooms-left old new household rest others apart.1 rooms.1,
)
