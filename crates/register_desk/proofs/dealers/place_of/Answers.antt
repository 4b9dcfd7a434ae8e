-- That `place_of` keeps its contract.
use Rattle.std.proofs.Common.{ltb, of_calls, rules, ℕ}
use Rattle.std.proofs.lemmas.List.Sorted.{IsPartitionPoint-from_clause, IsPartitionedBy-ltb}
use Rattle.fund_calendar.proofs.LookUpLemmas.{non_decreasing}
use Rattle.register_desk.proofs.dealers.place_of.Goals as goal

pub returns-clause-point : goal.returns-clause-point
returns-clause-point c =
    let numbers = c.args.numbers.now in
    let parted = IsPartitionedBy-ltb (λ (n : ℕ). n) numbers c.args.number (non_decreasing (λ (n : ℕ). n) numbers c.requires) in
    IsPartitionPoint-from_clause (λ n. ltb n c.args.number) numbers _ c.partition_point.ensures.partitioned parted (λ a r q k. search (rules, of_calls))
