-- That `read_brackets` keeps its contract.
use Rattle.event_rows.specs.FieldReading.{items_at}
use Rattle.event_rows.proofs.Loops.{goes_on, ends, is_done, items_count}
use Rattle.event_rows.specs.Reading.{bracket_at}
use Rattle.std.proofs.lemmas.Result.{err_from_is_err_and}
use Rattle.event_rows.proofs.list_readers.read_brackets.Goals as goal

pub returns-in_err-bracket-clause-read : goal.returns-in_err-bracket-clause-read
returns-in_err-bracket-clause-read c =
    let p = err_from_is_err_and c.from_residual.result c.from_residual.ensures.1 in
    rw (p.1, p.2) (ends bracket_at c.in_err-bracket.field-0.0 c.loop.brackets c.args.count c.loop.counter c.loop.row (items_at bracket_at c.args.count c.args.row.now) c.loop-test.true c.in_err-bracket.ensures c.loop.invariant)

pub loop-preserved : goal.loop-preserved
loop-preserved c =
    rw c.in_ok-push.ensures.ok
    (goes_on bracket_at c.loop.brackets c.args.count c.loop.counter c.loop.row c.in_ok-bracket.bracket c.read_bracket.new.row (items_at bracket_at c.args.count c.args.row.now) c.loop-test.true c.in_ok-bracket.ensures c.loop.invariant)

pub returns-clause-read : goal.returns-clause-read
returns-clause-read c =
    is_done bracket_at c.loop.brackets c.args.count c.loop.counter c.loop.row (items_at bracket_at c.args.count c.args.row.now) c.loop-test.false c.loop.invariant

pub returns-clause-counted : goal.returns-clause-counted
returns-clause-counted c =
    items_count bracket_at c.args.count c.args.row.now c.loop.brackets c.loop.row
    (is_done bracket_at c.loop.brackets c.args.count c.loop.counter c.loop.row (items_at bracket_at c.args.count c.args.row.now) c.loop-test.false c.loop.invariant)
