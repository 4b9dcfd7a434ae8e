-- What holds at each turn of the loops of `value_of_digits`.
use Rattle.std.proofs.Common.{◌≡◌, take}
use Rattle.std.specs.Str.Parse.{digits_value}
use Rattle.money_units.proofs.reading.value_of_digits.Given as goal

abbrev pub invariant-loop-byte : goal.invariant-loop-byte
invariant-loop-byte l = l.value ≡ digits_value 10 (take l.byte-index l.text)
