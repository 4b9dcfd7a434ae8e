-- That `PositionLots::take_off` keeps its contract.
use Rattle.std.proofs.Common.{◌++◌, ◌∙◌, ◌≤◌, List, filter, sym, subst, ap}
use Rattle.std.specs.Prelude.{All}
use Rattle.share_lots.specs.declared.lot.Lot.{Lot}
use Rattle.share_lots.specs.Rows.{rest_of, lots_in}
use Rattle.share_lots.specs.Lots.{mils}
use Rattle.share_lots.specs.Taking.{has_mils, lots_less}
use Rattle.share_lots.proofs.RowLemmas.{taken-front}
use Rattle.share_lots.proofs.position_lots.PositionLots.take_off.Goals as goal

pub returns-clause-ok : goal.returns-clause-ok
returns-clause-ok c =
    let s = c.own_loose.new.self in
    let kept = c.in_ok-own_loose.ensures.kept in
    let some : All (λ (l : Lot). 1 ≤ mils l) (lots_in s) = subst (All (λ (l : Lot). 1 ≤ mils l)) (sym kept) (λ k d short. (c.requires.lots k d short).with_mils) in
    ap (λ (ls : List Lot). ls ++ rest_of s.rest ++ s.back.items) c.take_row-cost.ensures.rest
    ∙ taken-front c.args.asked s.front.items (rest_of s.rest) s.back.items c.in_ok-own_loose.ensures.enough some
    ∙ ap (λ (ls : List Lot). filter has_mils (lots_less c.args.asked ls)) kept
