-- That `place_of` keeps its contract.
use Rattle.std.proofs.Common.{rules}
use Rattle.std.proofs.lemmas.List.Sorted.{IsPartitionPoint-from_clause}
use Rattle.share_lots.specs.Lots.{ranks_before}
use Rattle.share_lots.proofs.LotLemmas.{parted_by_rank}
use Rattle.share_lots.proofs.adding.place_of.Goals as goal

pub returns-clause-point : goal.returns-clause-point
returns-clause-point c =
    let lots = c.args.lots.now in
    IsPartitionPoint-from_clause (λ other. ranks_before other c.args.lot.now) lots _ c.partition_point.ensures.partitioned (parted_by_rank c.args.lot.now lots c.requires) (λ a r q k. search rules)
