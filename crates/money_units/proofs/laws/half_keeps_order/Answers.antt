-- The proof of the law `half_keeps_order`.
use Rattle.money_units.proofs.RoundingFacts.{half-mul, half-rises}
use Rattle.money_units.proofs.laws.half_keeps_order.Goals as goal

pub returns : goal.returns
returns c = record {
  exact = half-mul c.args.c c.args.b c.requires.positive;
  order = half-rises c.args.a c.args.c c.args.b c.requires.positive c.requires.ordered;
}
