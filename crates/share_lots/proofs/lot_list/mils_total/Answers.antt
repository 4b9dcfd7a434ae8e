-- That `mils_total` keeps its contract.
use Rattle.std.proofs.Common.{arith}
use Rattle.share_lots.proofs.LotLemmas.{sum-mils}
use Rattle.share_lots.proofs.lot_list.mils_total.Goals as goal

pub loose_total-requires : goal.loose_total-requires
loose_total-requires c = omega (arith, sum-mils c.args.lots.now, c.requires)

pub held_total-requires : goal.held_total-requires
held_total-requires c = omega (arith, sum-mils c.args.lots.now, c.requires)

pub overflow_add-result : goal.overflow_add-result
overflow_add-result c = omega (arith, c.loose_total.ensures, c.held_total.ensures, sum-mils c.args.lots.now, c.requires)

pub returns : goal.returns
returns c = omega (arith, c.loose_total.ensures, c.held_total.ensures, sum-mils c.args.lots.now)
