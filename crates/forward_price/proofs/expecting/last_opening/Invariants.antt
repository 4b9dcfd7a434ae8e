-- What holds at each turn of the loops of `last_opening`.
use Rattle.std.proofs.Common.{◌≡◌, ℕ, nat_lt, take}
use Rattle.forward_price.specs.Turns.{is_due}
use Rattle.forward_price.proofs.expecting.last_opening.Given as goal

abbrev pub invariant-loop-class : goal.invariant-loop-class
invariant-loop-class l =
    (m : ℕ) → nat_lt l.latest m ≡ is_due (take l.class-index l.classes) l.asked l.fn.receipt m
