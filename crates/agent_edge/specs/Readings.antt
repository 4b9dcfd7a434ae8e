-- The readings of a clock.
use Rattle.std.specs.Prelude.{ℕ, ◌≤◌, List, [], ◌∷◌, ⊤, drop}

-- the next reading: the first that is still to come, and the last one again where none is
abbrev pub next_reading : ℕ → List ℕ → ℕ
next_reading last [] = last
next_reading last (first ∷ rest) = first

-- these readings never fall, beginning at the last one
abbrev pub NeverFall : ℕ → List ℕ → Type 0
NeverFall last [] = ⊤
NeverFall last (first ∷ rest) = (last ≤ first) × NeverFall first rest

-- a clock in memory: the last reading, and those still to come
pub record ClockState : Type 0 where
  pub last : ℕ
  pub coming : List ℕ

-- after a reading
abbrev pub after_reading : ClockState → ClockState
after_reading clock = record { last = next_reading clock.last clock.coming; coming = drop 1 clock.coming }
