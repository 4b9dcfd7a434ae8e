-- The proof of the law `half_is_nearest`.
use Rattle.std.proofs.Common.{arith}
use Rattle.money_units.proofs.RoundingFacts.{half-least, half-most}
use Rattle.money_units.proofs.laws.half_is_nearest.Goals as goal

pub returns : goal.returns
returns c = record {
  not_above = half-least c.args.a c.args.b;
  not_below = omega (arith, half-most c.args.a c.args.b c.requires.positive);
}
