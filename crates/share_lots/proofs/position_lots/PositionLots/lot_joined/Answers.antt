-- That `PositionLots::lot_joined` keeps its contract.
use Rattle.std.proofs.Common.{◌≡◌, ◌∙◌, true, sym, subst, ap, arith}
use Rattle.share_lots.specs.Rows.{rest_of, lots_in}
use Rattle.share_lots.specs.Lots.{AreRanked, free_number, lot_joined}
use Rattle.share_lots.proofs.RowLemmas.{free-front}
use Rattle.share_lots.proofs.position_lots.PositionLots.lot_joined.Goals as goal

pub returns-clause-joined : goal.returns-clause-joined
returns-clause-joined c =
    let s = c.own_first.new.self in
    let kept = c.in_ok-own_first.ensures.kept in
    let free : c.args.free ≡ true = grind (arith, c.if-not-free.false) in
    c.free_number.ensures ∙ ap free_number c.deref.ensures.value
    ∙ free-front s.front.items (rest_of s.rest) s.back.items c.in_ok-own_first.ensures.first (subst AreRanked (sym kept) c.requires)
    ∙ ap free_number kept
    ∙ ap (lot_joined (lots_in c.args.self.now)) (sym free)
