-- That `PositionLots::insert_last` keeps its contract.
use Rattle.std.proofs.Common.{◌≡◌, ◌++◌, ◌∙◌, true, List, ap}
use Rattle.share_lots.specs.declared.lot.Lot.{Lot}
use Rattle.share_lots.specs.Rows.{rest_of}
use Rattle.share_lots.specs.Lots.{ranks_before}
use Rattle.share_lots.proofs.RowLemmas.{placed-last, AllPairs-right}
use Rattle.share_lots.proofs.position_lots.PositionLots.insert_last.Goals as goal

pub insert_lot-requires : goal.insert_lot-requires
insert_lot-requires c =
    let s = c.args.self.now in
    AllPairs-right (λ a b. ranks_before a b ≡ true) (s.front.items ++ rest_of s.rest) s.back.items c.requires.ranked

pub returns-clause-ok : goal.returns-clause-ok
returns-clause-ok c =
    let s = c.args.self.now in
    ap (λ (ls : List Lot). s.front.items ++ rest_of s.rest ++ ls) c.in_ok-insert_lot.ensures.ok
    ∙ placed-last c.args.lot (s.front.items ++ rest_of s.rest) s.back.items c.requires.last
