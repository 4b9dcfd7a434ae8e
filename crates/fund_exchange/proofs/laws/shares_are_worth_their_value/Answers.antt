-- The proof of the law `shares_are_worth_their_value`.
use Rattle.std.proofs.Common.{◌*◌, arith}
use Rattle.money_units.proofs.RoundingFacts.{half-least, half-most}
use Rattle.share_lots.specs.Values.{value_at}
use Rattle.fund_exchange.specs.Exchange.{mils_total}
use Rattle.fund_exchange.proofs.ExchangeFacts.{carried-whole}
use Rattle.fund_exchange.proofs.laws.shares_are_worth_their_value.Goals as goal

pub returns-clause-not_above : goal.returns-clause-not_above
returns-clause-not_above c =
    rw (carried-whole c.args.from c.args.to c.args.pieces.now c.requires)
    (half-least (1000 * value_at c.args.from (mils_total c.args.pieces.now)) c.args.to)

pub returns-clause-not_below : goal.returns-clause-not_below
returns-clause-not_below c =
    rw (carried-whole c.args.from c.args.to c.args.pieces.now c.requires)
    (omega (arith, half-most (1000 * value_at c.args.from (mils_total c.args.pieces.now)) c.args.to c.requires))
