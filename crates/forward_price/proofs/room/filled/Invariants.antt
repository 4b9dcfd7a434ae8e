-- What holds at each turn of the loops of `filled`.
use Rattle.std.proofs.Common.{◌≡◌, ◌≤◌, take, length, vec_capacity}
use Rattle.forward_price.proofs.room.filled.Given as goal

abbrev pub invariant-loop-price : goal.invariant-loop-price
invariant-loop-price l = (l.items.items ≡ take l.price-index l.prices) × (length l.prices ≤ vec_capacity l.items)
