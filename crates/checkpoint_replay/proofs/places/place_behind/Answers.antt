-- That `place_behind` keeps its contract.
use Rattle.std.proofs.Common.{leb, of_calls, rules}
use Rattle.std.proofs.lemmas.List.Sorted.{IsPartitionPoint-from_clause, IsPartitionedBy-leb}
use Rattle.checkpoint_replay.proofs.SearchFacts.{up_to_from, non_falling}
use Rattle.checkpoint_replay.proofs.places.place_behind.Goals as goal

pub returns-clause-point : goal.returns-clause-point
returns-clause-point c =
    let numbers = c.args.numbers.now in
    let parted = IsPartitionedBy-leb (λ n. n) numbers c.args.number (non_falling numbers c.requires) in
    let point = IsPartitionPoint-from_clause (λ n. leb n c.args.number) numbers _ c.partition_point.ensures.partitioned parted (λ a r q k. search (rules, of_calls)) in
    up_to_from numbers c.args.number _ point
