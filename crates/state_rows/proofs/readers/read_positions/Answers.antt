-- That `read_positions` keeps its contract.
use Rattle.event_rows.specs.FieldReading.{items_at}
use Rattle.event_rows.proofs.Loops.{goes_on, ends, is_done}
use Rattle.state_rows.specs.Reading.{position_at}
use Rattle.std.proofs.lemmas.Result.{err_from_is_err_and}
use Rattle.state_rows.proofs.readers.read_positions.Goals as goal

pub returns-in_err-position : goal.returns-in_err-position
returns-in_err-position c =
    let p = err_from_is_err_and c.from_residual.result c.from_residual.ensures.1 in
    rw (p.1, p.2) (ends position_at c.in_err-position.field-0.0 c.loop.positions c.args.count c.loop.counter c.loop.row (items_at position_at c.args.count c.args.row.now) c.loop-test.true c.in_err-position.ensures c.loop.invariant)

pub loop-preserved : goal.loop-preserved
loop-preserved c =
    rw c.in_ok-push.ensures.ok
    (goes_on position_at c.loop.positions c.args.count c.loop.counter c.loop.row c.in_ok-position.position c.read_position.new.row (items_at position_at c.args.count c.args.row.now) c.loop-test.true c.in_ok-position.ensures c.loop.invariant)

pub returns : goal.returns
returns c =
    is_done position_at c.loop.positions c.args.count c.loop.counter c.loop.row (items_at position_at c.args.count c.args.row.now) c.loop-test.false c.loop.invariant
