-- That `first_place` keeps its contract.
use Rattle.std.proofs.Common.{ltb, of_calls, rules}
use Rattle.std.proofs.lemmas.List.Sorted.{IsPartitionPoint-from_clause, IsPartitionedBy-ltb}
use Rattle.checkpoint_replay.proofs.SearchFacts.{below_from, non_falling}
use Rattle.checkpoint_replay.proofs.places.first_place.Goals as goal

pub returns-clause-point : goal.returns-clause-point
returns-clause-point c =
    let numbers = c.args.numbers.now in
    let parted = IsPartitionedBy-ltb (λ n. n) numbers c.args.number (non_falling numbers c.requires) in
    let point = IsPartitionPoint-from_clause (λ n. ltb n c.args.number) numbers _ c.partition_point.ensures.partitioned parted (λ a r q k. search (rules, of_calls)) in
    below_from numbers c.args.number _ point
