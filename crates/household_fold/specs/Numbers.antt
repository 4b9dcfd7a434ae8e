-- The numbers of lots, looked up by account and class.
use Rattle.register_machine.specs.replay.Positions.{Register, position_of}
use Rattle.std.specs.Prelude.{ℕ, ◌≤◌}

-- no lot of any account and class has a number above 4294967294
abbrev pub AreNumbersWithin : Register → Type 0
AreNumbersWithin register = (account class : ℕ) → (position_of register account class).holding.next_lot ≤ 4294967295
