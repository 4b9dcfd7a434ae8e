-- What holds at each turn of the loops of `day_after_dividends`.
use Rattle.std.proofs.Common.{All, drop, fold, map, ◌≡◌}
use Rattle.household_fold.specs.Dividends.{class_known, dividends_known, price_on_trial}
use Rattle.household_fold.specs.Facts.{IsListed}
use Rattle.household_fold.proofs.dividends.day_after_dividends.Given as goal

abbrev pub invariant-loop-class : goal.invariant-loop-class
invariant-loop-class l =
    (All (λ price. IsListed l.fn.facts price.0) l.class-items)
    × (fold (class_known l.fn.facts) l.day (map (price_on_trial l.fn.facts.patch l.fn.facts.sheet) (drop l.class-index l.class-items)) ≡ dividends_known l.fn.facts l.fn.day)
