-- The set has the classes of the positions so far, and so many were counted.
use Rattle.std.proofs.Common.{[], drop, nat_eq, take, ℕ, ◌+◌, ◌≡◌, ◌≤◌}
use Rattle.std.specs.HashSet.{contains}
use Rattle.std.specs.List.{list_any}
use Rattle.state_rows.specs.Rules.{classes_beside}
use Rattle.state_rows.proofs.ClassesMet.{classes_met}
use Rattle.state_rows.proofs.classes.are_few_met.Given as goal

abbrev pub invariant-loop-row : goal.invariant-loop-row
invariant-loop-row l = record {
  same : (class : ℕ) → contains nat_eq l.met class ≡ list_any (nat_eq class) (classes_met (take l.row-index l.rows));
  sum : l.count + classes_beside (classes_met (take l.row-index l.rows)) (drop l.row-index l.rows) ≡ classes_beside [] l.rows;
  few : l.count ≤ 1000;
}
