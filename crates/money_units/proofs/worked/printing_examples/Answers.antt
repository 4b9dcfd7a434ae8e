-- Each text is computed from its value.
use Rattle.std.proofs.Common.{refl}
use Rattle.std.specs.Fmt.{digits}
use Rattle.money_units.proofs.worked.printing_examples.Goals as goal

pub returns : goal.returns
unfolding digits
returns c = record {
  price = refl;
  nothing = refl;
  a_cent = refl;
  bought = refl;
  account = refl;
  loss = refl;
  gain = refl;
  even = refl;
}
