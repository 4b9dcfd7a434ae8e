-- That `insert_lot` keeps its contract.
use Rattle.std.proofs.Common.{◌∙◌}
use Rattle.share_lots.proofs.LotLemmas.{inserted}
use Rattle.share_lots.proofs.adding.insert_lot.Goals as goal

pub returns-clause-ok : goal.returns-clause-ok
returns-clause-ok c = c.in_ok-insert.ensures.items ∙ inserted c.args.lots.now.items c.args.lot c.place_of-place.result (rw (← c.deref.ensures.value) c.place_of-place.ensures.point)
