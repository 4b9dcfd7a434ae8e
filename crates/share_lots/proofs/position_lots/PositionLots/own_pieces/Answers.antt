-- That `PositionLots::own_pieces` keeps its contract.
use Rattle.std.proofs.Common.{◌++◌, ◌∙◌, [], ap}
use Rattle.share_lots.specs.Rows.{rest_of}
use Rattle.share_lots.specs.Taking.{pieces}
use Rattle.share_lots.proofs.RowLemmas.{pieces-front}
use Rattle.share_lots.proofs.position_lots.PositionLots.own_pieces.Goals as goal

pub returns-clause-pieces : goal.returns-clause-pieces
returns-clause-pieces c =
    let s = c.own_loose.new.self in
    c.in_ok-pieces.ensures ∙ ap (λ ps. ps ++ pieces c.args.asked c.deref.result.now) c.new.ensures
    ∙ ap (λ ls. [] ++ pieces c.args.asked ls) c.deref.ensures.value
    ∙ pieces-front c.args.asked s.front.items (rest_of s.rest) s.back.items c.in_ok-own_loose.ensures.enough
    ∙ ap (pieces c.args.asked) c.in_ok-own_loose.ensures.kept
