-- The proof of the law `tables_begin_at_nothing`.
use Rattle.class_terms.proofs.TableFacts.{HasRows, rows-lawful, first-floor}
use Rattle.class_terms.proofs.laws.tables_begin_at_nothing.Goals as goal

pub returns : goal.returns
returns c =
    let table : HasRows c.args.rows.now = rows-lawful c.args.rows.now c.requires.lawful in
    record {
      floor = first-floor c.args.rows.now c.args.first table.stands c.requires.first;
      least = table.least;
      most = table.most;
    }
