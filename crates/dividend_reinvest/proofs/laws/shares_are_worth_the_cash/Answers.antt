-- The proof of the law `shares_are_worth_the_cash`.
use Rattle.std.proofs.Common.{◌*◌, arith}
use Rattle.money_units.proofs.RoundingFacts.{half-most}
use Rattle.dividend_reinvest.proofs.laws.shares_are_worth_the_cash.Goals as goal

pub returns-clause-not_below : goal.returns-clause-not_below
returns-clause-not_below c = omega (arith, half-most (1000 * c.args.cash) c.args.nav c.requires)
