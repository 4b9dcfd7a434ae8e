-- The rows of the holders so far stand behind those before.
use Rattle.std.proofs.Common.{map, ◌++◌, ◌≡◌}
use Rattle.std.specs.Map.Iter.{deref_pair}
use Rattle.gain_loss_book.specs.ChangeRows.{holder_rows}
use Rattle.gain_loss_book.proofs.change_rows.push_holders.Given as goal

abbrev pub invariant-loop-account : goal.invariant-loop-account
invariant-loop-account l = record {
  can_next : (goal.iterator-loop-account).can_next l.account-iterator;
  is_finite : (goal.iterator-loop-account).is_finite l.account-iterator;
  rows : l.rows ≡ l.fn.rows ++ holder_rows (map deref_pair l.yielded);
}
