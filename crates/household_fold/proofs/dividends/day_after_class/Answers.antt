-- That `day_after_class` keeps its contract.
use Rattle.std.proofs.Common.{subst}
use Rattle.register_machine.specs.replay.Trades.{Day}
use Rattle.household_fold.specs.Numbers.{AreNumbersWithin}
use Rattle.household_fold.proofs.DividendFacts.{class-paid}
use Rattle.household_fold.proofs.dividends.day_after_class.Goals as goal

pub day_after_rate-requires-clause-lots : goal.day_after_rate-requires-clause-lots
day_after_rate-requires-clause-lots c =
    subst (λ (day : Day). AreNumbersWithin day.register)
    (class-paid c.args.facts.now c.args.day.now (c.args.class, c.args.nav) c.rate-rate.result c.rate-rate.ensures.value c.if-rate-ne0.true)
    c.requires.lots
