-- The register of a household: positions by account and then class, each once and none of them fresh.
use Rattle.std.specs.List.Sorted.{IsPartitionPoint}
use Rattle.std.specs.Prelude.{All, AllPairs, false, filter, not, true, ℕ, ◌≡◌}
use Rattle.register_machine.specs.replay.Positions.{Register, fresh_position, is_fresh, is_position, stands_before}
use Rattle.register_machine.specs.replay.Trades.{Day}

abbrev pub AreInOrder : Register → Type 0
AreInOrder register = AllPairs (λ a b. stands_before a b ≡ true) register

pub record IsRegister (register : Register) : Type 0 where
  pub ordered : AreInOrder register
  pub kept : All (λ position. is_fresh position ≡ false) register

-- the register without the position of an account and class
abbrev pub without : ℕ → ℕ → Register → Register
without account class register = filter (λ other. not (is_position account class other)) register

-- and the day over it
abbrev pub day_without : ℕ → ℕ → Day → Day
day_without account class day = record { register = without account class day.register; trades = day.trades }

-- the place of an account and class: what comes before it stands before it, and nothing else does
abbrev pub IsPlaceOf : ℕ → ℕ → Register → ℕ → Type 0
IsPlaceOf account class register place =
    IsPartitionPoint (λ other. stands_before other (fresh_position account class) ≡ true)
    (λ other. stands_before other (fresh_position account class) ≡ false) register place
