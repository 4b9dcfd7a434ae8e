-- What holds at each turn of the loops of `day_after_rate`.
use Rattle.std.proofs.Common.{All, drop, fold, ◌≡◌}
use Rattle.household_fold.specs.Dividends.{dividend_known, class_known_at_rate}
use Rattle.household_fold.proofs.dividends.day_after_rate.Given as goal

abbrev pub invariant-loop-key : goal.invariant-loop-key
invariant-loop-key l =
    (All (λ key. key.class ≡ l.fn.class) l.key-items)
    × (fold (dividend_known l.fn.facts l.fn.rate l.fn.nav) l.day (drop l.key-index l.key-items) ≡ class_known_at_rate l.fn.facts l.fn.rate (l.fn.class, l.fn.nav) l.fn.day)
