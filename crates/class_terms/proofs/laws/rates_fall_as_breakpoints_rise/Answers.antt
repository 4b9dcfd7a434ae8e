-- The proof of the law `rates_fall_as_breakpoints_rise`.
use Rattle.std.proofs.Common.{◌≤◌, None}
use Rattle.class_terms.specs.declared.lists.Bracket.{Bracket}
use Rattle.class_terms.specs.Tables.{breaks_table}
use Rattle.class_terms.proofs.TableFacts.{HasRows, rows-lawful, Follows, table-order, table-ceiling, each-follows, each-stands}
use Rattle.class_terms.proofs.laws.rates_fall_as_breakpoints_rise.Goals as goal

pub returns : goal.returns
returns c =
    let table : HasRows c.args.rows.now = rows-lawful c.args.rows.now c.requires.lawful in
    let follows : Follows c.args.low c.args.high =
    each-follows breaks_table Follows table-order 0 None c.args.rows.now c.args.earlier c.args.later c.args.low c.args.high
    table.stands c.requires.order c.requires.low c.requires.high in
    record {
      floors = follows.floor;
      rates = follows.rate;
      ceiling =
          each-stands breaks_table (λ (row : Bracket). row.rate ≤ 850) table-ceiling 0 None c.args.rows.now c.args.earlier c.args.low
          table.stands c.requires.low;
    }
