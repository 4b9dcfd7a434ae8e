-- The proof of the law `ceil_div_covers`.
use Rattle.money_units.proofs.RoundingFacts.{ceil-least, ceil-most}
use Rattle.money_units.proofs.laws.ceil_div_covers.Goals as goal

pub returns : goal.returns
returns c = record {
  covers = ceil-least c.args.a c.args.b c.requires.positive;
  least = ceil-most c.args.a c.args.b c.requires.positive;
}
