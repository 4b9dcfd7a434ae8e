-- That `place_from` keeps its contract.
use Rattle.std.proofs.Common.{rules, of_calls}
use Rattle.std.specs.Prelude.{nat_lt}
use Rattle.std.proofs.lemmas.List.Sorted.{IsPartitionPoint-from_clause}
use Rattle.forward_price.proofs.SearchFacts.{parted_before, before_from}
use Rattle.forward_price.proofs.in_order.place_from.Goals as goal

pub returns-clause-point : goal.returns-clause-point
returns-clause-point c =
    let sheets = c.args.sheets.now in
    let point = IsPartitionPoint-from_clause (λ s. nat_lt s.moment c.args.moment) sheets _ c.partition_point.ensures.partitioned (parted_before c.args.moment sheets c.requires) (λ a r q k. search (rules, of_calls)) in
    before_from c.args.moment sheets _ point
