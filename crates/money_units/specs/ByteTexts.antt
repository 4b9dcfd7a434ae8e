-- The bytes of a text: what it begins with, and which bytes are visible ones.
use Rattle.std.specs.Prelude.{ℕ, nat_eq, nat_le, Bool, ◌&&◌, List}
use Rattle.std.specs.List.{starts_with}

-- the text begins with the prefix
abbrev pub begins : List ℕ → List ℕ → Bool
begins prefix text = starts_with nat_eq text prefix

-- a byte from `!` to tilde
abbrev pub is_visible : ℕ → Bool
is_visible byte = nat_le 33 byte && nat_le byte 126
