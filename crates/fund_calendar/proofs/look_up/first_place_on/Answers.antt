-- That `first_place_on` keeps its contract.
use Rattle.std.proofs.Common.{ltb, rules, of_calls}
use Rattle.std.proofs.lemmas.List.Sorted.{IsPartitionPoint-from_clause, IsPartitionedBy-ltb}
use Rattle.fund_calendar.proofs.LookUpLemmas.{non_decreasing, day_point, is_lt-nat_cmp}
use Rattle.fund_calendar.proofs.look_up.first_place_on.Goals as goal

pub returns-clause-point : goal.returns-clause-point
returns-clause-point c =
    let days = c.args.listed.now in
    let parted = IsPartitionedBy-ltb (λ e. e.day) days c.args.day (non_decreasing (λ e. e.day) days c.requires.days_rise) in
    let point = IsPartitionPoint-from_clause (λ e. ltb e.day c.args.day) days _ c.partition_point.ensures.partitioned parted (λ a r q k. rw (← is_lt-nat_cmp a.0.now.day c.args.day) (search (rules, of_calls))) in
    day_point days c.args.day c.partition_point.result point
