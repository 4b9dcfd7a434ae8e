-- The proof of the law `greater_rates_buy_no_more`.
use Rattle.std.proofs.Common.{arith}
use Rattle.offering_price.specs.Purchase.{offering_price}
use Rattle.offering_price.proofs.PurchaseFacts.{price-positive, price-rises, mils-fall}
use Rattle.offering_price.proofs.laws.greater_rates_buy_no_more.Goals as goal

pub returns-clause-mils : goal.returns-clause-mils
returns-clause-mils c =
    mils-fall c.args.gross (offering_price c.args.nav c.args.low) (offering_price c.args.nav c.args.high)
    (price-positive c.args.nav c.args.low c.requires.nav (omega arith))
    (price-rises c.args.nav c.args.low c.args.high c.requires.order c.requires.ceiling)
