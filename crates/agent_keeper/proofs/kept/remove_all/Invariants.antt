-- The names so far are removed, and each other row is as before.
use Rattle.std.proofs.Common.{◌≡◌, None, take, if◌then◌else◌}
use Rattle.std.specs.HashMap.{get}
use Rattle.agent_keeper.specs.declared.batch.CheckName.{CheckName as Name}
use Rattle.agent_keeper.specs.Content.{is_removed}
use Rattle.agent_keeper.specs.Memory.{is_same}
use Rattle.agent_keeper.proofs.kept.remove_all.Given as goal

abbrev pub invariant-loop-name : goal.invariant-loop-name
invariant-loop-name l = (q : Name) → get is_same l.checks q ≡ (if is_removed (take l.name-index l.removes) q.household q.sheet then None else get is_same l.fn.checks q)
