-- The proof of the law `greater_amounts_have_no_greater_rate`.
use Rattle.class_terms.proofs.TableFacts.{HasRows, rows-lawful}
use Rattle.offering_price.proofs.RateFacts.{bracket-top, bracket-falls}
use Rattle.offering_price.proofs.laws.greater_amounts_have_no_greater_rate.Goals as goal

pub returns : goal.returns
returns c =
    let table : HasRows c.args.rows.now = rows-lawful c.args.rows.now c.requires.lawful in
    record {
      rates = bracket-falls c.args.rows.now c.args.less c.args.more c.requires.lawful c.requires.order;
      highest = bracket-top c.args.rows.now c.args.first c.args.less table.stands c.requires.first;
    }
