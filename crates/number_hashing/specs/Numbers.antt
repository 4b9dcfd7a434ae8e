-- What a hasher of numbers computes.
use Rattle.std.specs.Prelude.{ℕ, List, [], ◌∷◌, ◌+◌, ◌-◌, ◌*◌, ◌/◌, ◌%◌, ◌^◌, bit_and, bit_xor}
use Rattle.number_hashing.specs.declared.hasher.NumberHasher.{NumberHasher}

abbrev pub initial : NumberHasher
initial = record { state = 0x243f_6a88_85a3_08d3 }

-- the two halves of 128 bits, joined
abbrev pub number_hash : ℕ → ℕ
number_hash number =
    let product = number * 0x9e37_79b9_7f4a_7c15 in
    bit_xor (bit_and product (2 ^ 64 - 1)) (product / 2 ^ 64)

-- the number of the first eight bytes, the lowest first
abbrev pub number_of : List ℕ → ℕ
number_of [] = 0
number_of (byte ∷ bytes) = (number_of bytes * 256 + byte) % 2 ^ 64

abbrev pub write : NumberHasher → List ℕ → NumberHasher
write hasher bytes = record { state = number_hash (bit_xor hasher.state (number_of bytes)) }
