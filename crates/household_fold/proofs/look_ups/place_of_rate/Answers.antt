-- That `place_of_rate` keeps its contract.
use Rattle.std.proofs.Common.{of_calls, rules}
use Rattle.std.proofs.lemmas.List.Sorted.{IsPartitionPoint-from_clause}
use Rattle.household_fold.specs.Facts.{rate_stands_before}
use Rattle.household_fold.proofs.LookUps.{rate_in_place, rates_partitioned}
use Rattle.household_fold.proofs.look_ups.place_of_rate.Goals as goal

pub returns-clause-point : goal.returns-clause-point
returns-clause-point c =
    let rows = c.args.rates.now in
    IsPartitionPoint-from_clause (rate_stands_before c.args.class c.args.moment) rows _ c.partition_point.ensures.partitioned
    (rates_partitioned rows c.args.class c.args.moment c.requires) (λ a r q k. search (rules, of_calls))

pub returns-clause-found : goal.returns-clause-found
returns-clause-found c = rate_in_place c.args.rates.now c.args.class c.args.moment c.partition_point.result c.requires (returns-clause-point c)
