-- That `correct_prices` keeps its contract.
use Rattle.std.proofs.Common.{sym, ap, ◌∙◌}
use Rattle.forward_price.specs.PriceTables.{corrected_price}
use Rattle.forward_price.proofs.sheet.correct_prices.Goals as goal
use Rattle.fund_calendar.proofs.ListFacts.{mapped-all, mapped-more}

pub loop-price-preserved : goal.loop-price-preserved
loop-price-preserved c =
    mapped-more (corrected_price c.args.class c.args.nav) c.args.prices.now c.loop-price.prices c.loop-price.price-index c.price-item.result c.corrected_price.result c.loop-price-test.true c.loop-price.invariant c.price-item.is (c.corrected_price.ensures ∙ ap (corrected_price c.args.class c.args.nav) (sym c.price-item.is))

pub returns : goal.returns
returns c = mapped-all (corrected_price c.args.class c.args.nav) c.args.prices.now c.loop-price.prices c.loop-price.price-index c.loop-price-test.false c.loop-price.invariant
