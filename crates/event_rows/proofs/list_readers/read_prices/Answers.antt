-- That `read_prices` keeps its contract.
use Rattle.event_rows.specs.FieldReading.{items_at}
use Rattle.event_rows.proofs.Loops.{goes_on, ends, is_done, items_count}
use Rattle.event_rows.specs.Reading.{price_at}
use Rattle.std.proofs.lemmas.Result.{err_from_is_err_and}
use Rattle.event_rows.proofs.list_readers.read_prices.Goals as goal

pub returns-in_err-price-clause-read : goal.returns-in_err-price-clause-read
returns-in_err-price-clause-read c =
    let p = err_from_is_err_and c.from_residual.result c.from_residual.ensures.1 in
    rw (p.1, p.2) (ends price_at c.in_err-price.field-0.0 c.loop.prices c.args.count c.loop.counter c.loop.row (items_at price_at c.args.count c.args.row.now) c.loop-test.true c.in_err-price.ensures c.loop.invariant)

pub loop-preserved : goal.loop-preserved
loop-preserved c =
    rw c.in_ok-push.ensures.ok
    (goes_on price_at c.loop.prices c.args.count c.loop.counter c.loop.row c.in_ok-price.price c.read_price.new.row (items_at price_at c.args.count c.args.row.now) c.loop-test.true c.in_ok-price.ensures c.loop.invariant)

pub returns-clause-read : goal.returns-clause-read
returns-clause-read c =
    is_done price_at c.loop.prices c.args.count c.loop.counter c.loop.row (items_at price_at c.args.count c.args.row.now) c.loop-test.false c.loop.invariant

pub returns-clause-counted : goal.returns-clause-counted
returns-clause-counted c =
    items_count price_at c.args.count c.args.row.now c.loop.prices c.loop.row
    (is_done price_at c.loop.prices c.args.count c.loop.counter c.loop.row (items_at price_at c.args.count c.args.row.now) c.loop-test.false c.loop.invariant)
