-- The bytes of a number give the number again.
use Rattle.std.proofs.Common.{arith, ℕ, ◌<◌, ◌^◌, ◌≡◌}
use Rattle.std.specs.Hash.{le_bytes}
use Rattle.number_hashing.specs.Numbers.{number_of}
use Rattle.number_hashing.specs.declared.hasher.NumberHasher.{NumberHasher}

pub four-bytes : (i : ℕ) → i < 2 ^ 32 → number_of (le_bytes 4 i) ≡ i
unfolding le_bytes
four-bytes i small = omega (arith, small)

pub eight-bytes : (i : ℕ) → i < 2 ^ 64 → number_of (le_bytes 8 i) ≡ i
unfolding le_bytes
eight-bytes i small = omega (arith, small)

abbrev pub hasher-at : ℕ → NumberHasher
hasher-at state = record { state = state }
