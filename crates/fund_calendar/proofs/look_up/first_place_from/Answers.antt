-- That `first_place_from` keeps its contract.
use Rattle.std.proofs.Common.{ltb, rules}
use Rattle.std.proofs.lemmas.List.Sorted.{IsPartitionPoint-from_clause, IsPartitionedBy-ltb}
use Rattle.fund_calendar.proofs.LookUpLemmas.{non_decreasing, find_from}
use Rattle.fund_calendar.proofs.look_up.first_place_from.Goals as goal

pub returns-clause-value : goal.returns-clause-value
returns-clause-value c =
    let days = c.args.listed.now in
    let parted = IsPartitionedBy-ltb (λ e. e.moment) days c.args.least (non_decreasing (λ e. e.moment) days c.requires.moments_rise) in
    let point = IsPartitionPoint-from_clause (λ e. ltb e.moment c.args.least) days _ c.partition_point.ensures.partitioned parted (λ a r q k. search rules) in
    find_from days c.args.least c.partition_point.result point
