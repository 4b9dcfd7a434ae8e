-- The numbers so far rise, and with those of the dealers from this one on they are all.
use Rattle.std.proofs.Common.{drop, ◌≡◌}
use Rattle.holder_statements.specs.AccountPositions.{AreRising}
use Rattle.register_desk.specs.GatheredNumbers.{with_dealers}
use Rattle.register_machine.specs.corrections.Gains.{dealer_numbers_of}
use Rattle.register_machine.specs.journal.Kinds.{dealers_of}
use Rattle.register_desk.proofs.dealers.dealer_numbers.Given as goal

abbrev pub invariant-loop-index : goal.invariant-loop-index
invariant-loop-index l =
    AreRising l.numbers.items
    × (with_dealers l.numbers.items (drop l.index (dealers_of l.orders.journal)) ≡ dealer_numbers_of l.orders.journal)
