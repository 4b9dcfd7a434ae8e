-- What holds at each turn of the loops of `first_awaited`.
use Rattle.std.proofs.Common.{◌≡◌, ◌-◌, ◌≤◌, false, All}
use Rattle.forward_price.specs.Turns.{is_awaited, pricing_pair}
use Rattle.forward_price.proofs.expecting.first_awaited.Given as goal

abbrev pub decreases-loop-moment : goal.decreases-loop-moment
decreases-loop-moment l = 7258118399 - l.at

abbrev pub invariant-loop-moment : goal.invariant-loop-moment
invariant-loop-moment l =
    All (λ e. e.moment ≤ l.at → is_awaited l.classes l.sheets (pricing_pair l.calendar.number e) ≡ false) l.calendar.days
