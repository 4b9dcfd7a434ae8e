-- What holds at each turn of the loops of `credit`.
use Rattle.std.proofs.Common.{◌≡◌, ◌*◌, ◌≤◌, take}
use Rattle.offering_price.specs.Accumulation.{credit}
use Rattle.offering_price.proofs.accumulation.credit.Given as goal

abbrev pub invariant-loop-holding : goal.invariant-loop-holding
invariant-loop-holding l = (l.sum ≡ credit (take l.holding-index l.holdings)) × (l.sum ≤ l.holding-index * 10000000000000000)
