-- What holds at each turn of the loops of `follow_orders`.
use Rattle.std.proofs.Common.{take, ◌≡◌}
use Rattle.household_fold.specs.Households.{AreOwned, orders_known}
use Rattle.household_fold.specs.Limits.{AreLettersWithin}
use Rattle.household_positions.specs.Register.{IsRegister}
use Rattle.household_fold.proofs.orders.follow_orders.Given as goal

abbrev pub invariant-loop-order : goal.invariant-loop-order
invariant-loop-order l = record {
  day : l.day ≡ orders_known l.facts (take l.order-index l.orders) l.initial.day;
  letters : AreLettersWithin l.day.register;
  owned : AreOwned l.facts l.household l.day.register;
  register : IsRegister l.day.register;
}
