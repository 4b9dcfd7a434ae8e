-- What holds at each turn of the loops of `correct_prices`.
use Rattle.std.proofs.Common.{◌≡◌, ◌++◌, map, take, drop}
use Rattle.forward_price.specs.PriceTables.{corrected_price}
use Rattle.forward_price.proofs.sheet.correct_prices.Given as goal

abbrev pub invariant-loop-price : goal.invariant-loop-price
invariant-loop-price l =
    l.prices ≡ map (corrected_price l.class l.nav) (take l.price-index l.initial.prices) ++ drop l.price-index l.initial.prices
