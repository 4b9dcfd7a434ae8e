-- That `place_of` keeps its contract.
use Rattle.std.proofs.Common.{ltb, of_calls, rules}
use Rattle.std.proofs.lemmas.List.Sorted.{IsPartitionPoint-from_clause}
use Rattle.holder_statements.proofs.PeriodFacts.{parted_by}
use Rattle.holder_statements.proofs.periods.place_of.Goals as goal

pub returns-clause-point : goal.returns-clause-point
returns-clause-point c =
    let trades = c.args.trades.now in
    IsPartitionPoint-from_clause (λ trade. ltb trade.moment c.args.seconds) trades _ c.partition_point.ensures.partitioned (parted_by trades c.args.seconds c.requires) (λ a r q k. search (rules, of_calls))
