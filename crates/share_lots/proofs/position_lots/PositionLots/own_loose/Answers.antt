-- That `PositionLots::own_loose` keeps its contract.
use Rattle.std.proofs.Common.{◌≤◌, List, sum_by, sym, subst, arith}
use Rattle.share_lots.specs.declared.lot.Lot.{Lot}
use Rattle.share_lots.specs.Rows.{rest_of, lots_in}
use Rattle.share_lots.specs.Lots.{mils, most_mils}
use Rattle.share_lots.proofs.LotLemmas.{sum-mils}
use Rattle.share_lots.proofs.RowLemmas.{sum-three}
use Rattle.share_lots.proofs.position_lots.PositionLots.own_loose.Goals as goal

pub loose_total-requires : goal.loose_total-requires
loose_total-requires c =
    let s = c.args.self.now in
    rw c.deref.ensures.value (omega (arith, sum-mils s.front.items, sum-three mils s.front.items (rest_of s.rest) s.back.items, c.requires))

pub loose_total-requires-2 : goal.loose_total-requires-2
loose_total-requires-2 c =
    let s = c.own.new.self in
    let few : sum_by mils (lots_in s) ≤ most_mils = subst (λ (ls : List Lot). sum_by mils ls ≤ most_mils) (sym c.in_ok-own.ensures) c.requires in
    rw c.deref-2.ensures.value (omega (arith, sum-mils s.front.items, sum-three mils s.front.items (rest_of s.rest) s.back.items, few))
