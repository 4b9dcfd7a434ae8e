-- The proof of the law `the_charge_is_within_the_highest_rate`.
use Rattle.class_terms.proofs.TableFacts.{HasRows, rows-lawful}
use Rattle.offering_price.specs.Accumulation.{bracket}
use Rattle.offering_price.proofs.RateFacts.{bracket-top, bracket-ceiling}
use Rattle.offering_price.proofs.PurchaseFacts.{charge-bound}
use Rattle.offering_price.proofs.laws.the_charge_is_within_the_highest_rate.Goals as goal

pub returns : goal.returns
returns c =
    let table : HasRows c.args.rows.now = rows-lawful c.args.rows.now c.requires.lawful in
    charge-bound c.args.gross c.args.nav (bracket c.args.rows.now c.args.amount) c.args.first.rate c.args.split c.requires.nav
    (bracket-ceiling c.args.rows.now c.args.amount c.requires.lawful)
    (bracket-top c.args.rows.now c.args.first c.args.amount table.stands c.requires.first) c.requires.split
