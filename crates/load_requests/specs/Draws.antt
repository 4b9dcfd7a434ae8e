-- The draws of a load: a linear congruential generator modulo 2^64 with the multiplier of Knuth's MMIX, of whose states the
-- upper 31 bits are taken.
use Rattle.std.specs.Prelude.{ℕ, zero, suc, ◌+◌, ◌*◌, ◌/◌, ◌%◌}

-- the state after one more draw
unfoldable pub next_state : ℕ → ℕ
next_state state = (6364136223846793005 * state + 1442695040888963407) % 18446744073709551616

-- the state after so many draws, where the number is the state before the first
abbrev pub state_after : ℕ → ℕ → ℕ
state_after number zero = number
state_after number (suc draws) = next_state (state_after number draws)

-- what a draw gives, by the state after it
abbrev pub draw_of : ℕ → ℕ
draw_of state = state / 8589934592
