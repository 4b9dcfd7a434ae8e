-- That `take_pieces` keeps its contract.
use Rattle.std.proofs.Common.{◌≡◌, ◌++◌, ◌∙◌, ap, min}
use Rattle.share_lots.specs.Taking.{pieces_of, pieces}
use Rattle.share_lots.proofs.LotLemmas.{taken-more, taken-all, taken-up}
use Rattle.share_lots.proofs.taking.take_pieces.Goals as goal

pub loop-lot-preserved : goal.loop-lot-preserved
loop-lot-preserved c =
    let x = c.lot-item.result in
    let quantity : c.min-quantity.result ≡ min x.loose c.loop-lot.left = c.min-quantity.ensures ∙ ap (λ n. min n c.loop-lot.left) c.loose_of.ensures in
    let new : c.push_piece.new.taken ≡ c.loop-lot.taken ++ pieces_of x (min x.loose c.loop-lot.left) = c.in_ok-push_piece.ensures.ok ∙ ap (λ n. c.loop-lot.taken ++ pieces_of x n) quantity in
    rw quantity (taken-more c.loop-lot.taken c.push_piece.new.taken (c.args.given ++ pieces c.args.asked c.args.lots.now) c.args.lots.now c.loop-lot.lot-index c.loop-lot.left x c.loop-lot-test.true c.lot-item.is new c.loop-lot.invariant)

pub returns : goal.returns
returns c = taken-all c.loop-lot.taken (c.args.given ++ pieces c.args.asked c.args.lots.now) c.args.lots.now c.loop-lot.lot-index c.loop-lot.left c.loop-lot-test.false c.loop-lot.invariant

pub returns-then-left-eq0 : goal.returns-then-left-eq0
returns-then-left-eq0 c = taken-up c.loop-lot.taken (c.args.given ++ pieces c.args.asked c.args.lots.now) c.args.lots.now c.loop-lot.lot-index c.loop-lot.left c.if-left-eq0.true c.loop-lot.invariant
