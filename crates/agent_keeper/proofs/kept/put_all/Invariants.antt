-- The rows so far are put, and there is room for the others.
use Rattle.std.proofs.Common.{◌≡◌, ◌≤◌, ◌+◌, length}
use Rattle.std.specs.HashMap.{get, spare}
use Rattle.agent_keeper.specs.declared.batch.CheckName.{CheckName as Name}
use Rattle.agent_keeper.specs.Content.{after_puts}
use Rattle.agent_keeper.specs.Memory.{is_same}
use Rattle.agent_keeper.proofs.kept.put_all.Given as goal

abbrev pub invariant-loop-put : goal.invariant-loop-put
invariant-loop-put l = record {
  can_next : (goal.iterator-loop-put).can_next l.put-iterator;
  is_finite : (goal.iterator-loop-put).is_finite l.put-iterator;
  put : (q : Name) → get is_same l.checks q ≡ after_puts l.yielded (get is_same l.fn.checks q) q.household q.sheet;
  room : length l.fn.puts.items ≤ spare l.checks + length l.yielded;
}
