-- That `put_each_price` keeps its contract.
use Rattle.event_rows.proofs.Loops.{written_more, all_more}
use Rattle.event_rows.specs.InForm.{IsListedPrice}
use Rattle.event_rows.specs.Rows.{price}
use Rattle.event_rows.proofs.list_writers.put_each_price.Goals as goal

pub loop-price-preserved : goal.loop-price-preserved
loop-price-preserved c = record {
  written = written_more price c.args.prices.now c.loop-price.price-index c.price-item.result c.args.row.now c.loop-price.row c.put_price.new.row c.loop-price-test.true c.price-item.is c.loop-price.invariant.written c.in_ok-put_price.ensures.written;
  in_form = all_more IsListedPrice c.args.prices.now c.loop-price.price-index c.price-item.result c.loop-price-test.true c.price-item.is c.loop-price.invariant.in_form c.in_ok-put_price.ensures.in_form;
}
