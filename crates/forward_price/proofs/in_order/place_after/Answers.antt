-- That `place_after` keeps its contract.
use Rattle.std.proofs.Common.{rules, of_calls}
use Rattle.std.specs.Prelude.{nat_le}
use Rattle.std.proofs.lemmas.List.Sorted.{IsPartitionPoint-from_clause}
use Rattle.forward_price.proofs.SearchFacts.{parted_up_to, up_to_from}
use Rattle.forward_price.proofs.in_order.place_after.Goals as goal

pub returns-clause-point : goal.returns-clause-point
returns-clause-point c =
    let sheets = c.args.sheets.now in
    let point = IsPartitionPoint-from_clause (λ s. nat_le s.moment c.args.moment) sheets _ c.partition_point.ensures.partitioned (parted_up_to c.args.moment sheets c.requires) (λ a r q k. search (rules, of_calls)) in
    up_to_from c.args.moment sheets _ point
