-- That `PositionLots::join` keeps its contract.
use Rattle.std.proofs.Common.{◌≡◌, ◌++◌, ◌∙◌, List, length, map, take, drop, sym, subst, ap, arith}
use Rattle.std.proofs.lemmas.Grind.{common_steps}
use Rattle.share_lots.specs.declared.lot.Lot.{Lot}
use Rattle.share_lots.specs.Rows.{rest_of}
use Rattle.share_lots.specs.Lots.{AreRanked, join_free}
use Rattle.share_lots.proofs.RowLemmas.{joined-front}
use Rattle.share_lots.proofs.position_lots.PositionLots.join.Goals as goal

pub returns-clause-ok : goal.returns-clause-ok
returns-clause-ok c =
    let s = c.own_first.new.self in
    let f = join_free c.args.mils.now c.args.cost.now in
    let joined : take s.front.len (c.join_free.new.lots ++ drop (length c.join_free.new.lots) s.front.items) ≡ map f s.front.items = grind (arith, common_steps) in
    let kept = c.in_ok-own_first.ensures.kept in
    ap (λ (ls : List Lot). ls ++ rest_of s.rest ++ s.back.items) joined
    ∙ joined-front c.args.mils.now c.args.cost.now s.front.items (rest_of s.rest) s.back.items c.in_ok-own_first.ensures.first (subst AreRanked (sym kept) c.requires.ranked)
    ∙ ap (map f) kept
