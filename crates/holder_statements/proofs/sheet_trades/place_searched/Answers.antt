-- That `place_searched` keeps its contract.
use Rattle.std.proofs.Common.{nat_lt, rules}
use Rattle.std.proofs.lemmas.List.Sorted.{IsPartitionPoint-from_clause}
use Rattle.agent_events.specs.declared.trade.Trade.{Trade}
use Rattle.holder_statements.proofs.TradesFromSheet.{parted-before}
use Rattle.holder_statements.proofs.sheet_trades.place_searched.Goals as goal

pub returns-clause-point : goal.returns-clause-point
returns-clause-point c =
    let trades = c.args.trades.now in
    IsPartitionPoint-from_clause (λ (trade : Trade). nat_lt trade.sheet c.args.sheet) trades _ c.partition_point.ensures.partitioned (parted-before c.args.sheet trades c.requires) (λ a r q k. search rules)
