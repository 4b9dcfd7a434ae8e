-- What holds at each turn of the loops of `rate_of`.
use Rattle.std.proofs.Common.{◌≡◌, drop, map}
use Rattle.class_terms.specs.declared.lists.Bracket.{Bracket}
use Rattle.offering_price.specs.Accumulation.{last_or, rows_reached, bracket}
use Rattle.offering_price.proofs.accumulation.rate_of.Given as goal

abbrev pub invariant-loop-row : goal.invariant-loop-row
invariant-loop-row l =
    last_or l.rate (map (λ (row : Bracket). row.rate) (rows_reached (drop l.row-index l.rows) l.amount)) ≡ bracket l.rows l.amount
