-- What shares are worth at a net asset value.
use Rattle.std.specs.Prelude.{ℕ, ◌*◌}
use Rattle.money_units.specs.Rounding.{half}

-- the value of mils at a net asset value, in whole cents
abbrev pub value_at : ℕ → ℕ → ℕ
value_at nav mils = half (mils * nav) 1000
