-- That `place_of_terms` keeps its contract.
use Rattle.std.proofs.Common.{ltb, of_calls, rules}
use Rattle.std.proofs.lemmas.List.Sorted.{IsPartitionPoint-from_clause, IsPartitionedBy-ltb}
use Rattle.fund_calendar.proofs.LookUpLemmas.{non_decreasing}
use Rattle.household_fold.proofs.LookUps.{by_number}
use Rattle.household_fold.proofs.look_ups.place_of_terms.Goals as goal

pub returns-clause-point : goal.returns-clause-point
returns-clause-point c =
    let rows = c.args.terms.now in
    let parted = IsPartitionedBy-ltb (λ r. r.class) rows c.args.class (non_decreasing (λ r. r.class) rows c.requires) in
    IsPartitionPoint-from_clause (λ r. ltb r.class c.args.class) rows _ c.partition_point.ensures.partitioned parted (λ a r q k. search (rules, of_calls))

pub returns-clause-found : goal.returns-clause-found
returns-clause-found c = by_number (λ r. r.class) c.args.terms.now c.args.class c.partition_point.result c.requires (returns-clause-point c)
