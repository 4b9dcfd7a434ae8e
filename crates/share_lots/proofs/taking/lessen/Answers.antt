-- That `lessen` keeps its contract.
use Rattle.std.proofs.Common.{◌≡◌, arith}
use Rattle.share_lots.proofs.LotLemmas.{nothing-less}
use Rattle.share_lots.proofs.taking.lessen.Goals as goal

pub returns-else-quantity-gt0 : goal.returns-else-quantity-gt0
returns-else-quantity-gt0 c =
    let none : c.args.quantity ≡ 0 = omega (arith, c.if-quantity-gt0.false) in
    rw none (nothing-less c.args.lot.now c.requires.lot.with_mils)
