-- The numbers so far, and those of the terms that are left, are all of them.
use Rattle.std.proofs.Common.{drop, filter_map, ◌++◌, ◌≡◌}
use Rattle.register_desk.specs.GatheredNumbers.{class_number}
use Rattle.register_desk.proofs.balances.numbers_in.Given as goal

abbrev pub invariant-loop-row : goal.invariant-loop-row
invariant-loop-row l =
    l.numbers.items ++ filter_map (class_number l.orders.journal) (drop l.row-index l.terms)
    ≡ filter_map (class_number l.orders.journal) l.terms
