-- The tests of one row of a table of loads and of one price of a sheet, field by field.
use Rattle.std.specs.Prelude.{ℕ, Bool, ◌&&◌, ◌==◌}
use Rattle.class_terms.specs.declared.lists.Bracket.{Bracket}

abbrev pub same_bracket : Bracket → Bracket → Bool
same_bracket a b = a.floor == b.floor && a.rate == b.rate

abbrev pub same_price : ℕ × ℕ → ℕ × ℕ → Bool
same_price a b = a.0 == b.0 && a.1 == b.1
