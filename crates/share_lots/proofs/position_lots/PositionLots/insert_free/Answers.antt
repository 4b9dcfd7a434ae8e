-- That `PositionLots::insert_free` keeps its contract.
use Rattle.std.proofs.Common.{◌++◌, ◌∙◌, List, ap}
use Rattle.share_lots.specs.declared.lot.Lot.{Lot}
use Rattle.share_lots.specs.Rows.{rest_of}
use Rattle.share_lots.proofs.RowLemmas.{placed-free}
use Rattle.share_lots.proofs.position_lots.PositionLots.insert_free.Goals as goal

pub returns-clause-ok : goal.returns-clause-ok
returns-clause-ok c =
    let s = c.args.self.now in
    ap (λ (ls : List Lot). ls ++ rest_of s.rest ++ s.back.items) c.in_ok-insert_lot.ensures.ok
    ∙ placed-free c.args.lot s.front.items (rest_of s.rest) s.back.items c.requires.free
