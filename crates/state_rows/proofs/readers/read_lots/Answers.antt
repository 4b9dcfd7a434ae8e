-- That `read_lots` keeps its contract.
use Rattle.event_rows.specs.FieldReading.{items_at}
use Rattle.event_rows.proofs.Loops.{goes_on, ends, is_done}
use Rattle.state_rows.specs.Reading.{lot_at}
use Rattle.std.proofs.lemmas.Result.{err_from_is_err_and}
use Rattle.state_rows.proofs.readers.read_lots.Goals as goal

pub returns-in_err-lot : goal.returns-in_err-lot
returns-in_err-lot c =
    let p = err_from_is_err_and c.from_residual.result c.from_residual.ensures.1 in
    rw (p.1, p.2) (ends lot_at c.in_err-lot.field-0.0 c.loop.lots c.args.count c.loop.counter c.loop.row (items_at lot_at c.args.count c.args.row.now) c.loop-test.true c.in_err-lot.ensures c.loop.invariant)

pub loop-preserved : goal.loop-preserved
loop-preserved c =
    rw c.in_ok-push.ensures.ok
    (goes_on lot_at c.loop.lots c.args.count c.loop.counter c.loop.row c.in_ok-lot.lot c.read_lot.new.row (items_at lot_at c.args.count c.args.row.now) c.loop-test.true c.in_ok-lot.ensures c.loop.invariant)

pub returns : goal.returns
returns c =
    is_done lot_at c.loop.lots c.args.count c.loop.counter c.loop.row (items_at lot_at c.args.count c.args.row.now) c.loop-test.false c.loop.invariant
