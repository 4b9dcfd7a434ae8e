-- That `piece_cost` keeps its contract.
use Rattle.std.proofs.Common.{◌+◌, arith}
use Rattle.share_lots.proofs.LotLemmas.{half-le}
use Rattle.share_lots.proofs.taking.piece_cost.Goals as goal

pub returns-clause-bound : goal.returns-clause-bound
returns-clause-bound c =
    let lot = c.args.lot.now in
    rw (c.half.ensures, c.cost_of.ensures, c.loose_of.ensures, c.held_of.ensures) (half-le lot.cost c.args.quantity (lot.loose + lot.held) c.requires.lot.with_mils (omega (arith, c.requires.within)))
