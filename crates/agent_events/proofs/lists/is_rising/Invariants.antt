-- The list rises exactly where what is left of it rises above the class before.
use Rattle.std.proofs.Common.{◌≡◌, drop}
use Rattle.agent_events.specs.Fields.{is_rising, rises_above}
use Rattle.agent_events.proofs.lists.is_rising.Given as goal

abbrev pub invariant-loop-price : goal.invariant-loop-price
invariant-loop-price l = is_rising l.prices ≡ rises_above l.low (drop l.price-index l.prices)
