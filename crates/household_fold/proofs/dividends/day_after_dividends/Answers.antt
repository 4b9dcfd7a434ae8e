-- That `day_after_dividends` keeps its contract.
use Rattle.household_fold.specs.Dividends.{dividends_known, price_on_trial}
use Rattle.household_fold.proofs.ListedFacts.{numbers-at_price}
use Rattle.household_fold.proofs.dividends.day_after_dividends.Goals as goal

pub day_after_class-requires-clause-lots : goal.day_after_class-requires-clause-lots
day_after_class-requires-clause-lots c =
    let known = c.args.facts.now in
    numbers-at_price known (price_on_trial known.patch known.sheet) c.loop-class.day (dividends_known known c.args.day.now)
    c.published_prices-class-items.result.now c.loop-class.class-index c.loop-class-item.result (c.loop-class-item.result.0, c.nav_on_trial.result)
    c.loop-class-test.true c.loop-class-item.is c.nav_on_trial.ensures c.loop-class.invariant.1 c.requires.lots
