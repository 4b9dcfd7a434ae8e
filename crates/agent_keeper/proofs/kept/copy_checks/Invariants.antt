-- What holds at each turn of the loops of `copy_checks`.
use Rattle.std.proofs.Common.{◌≡◌, None, map}
use Rattle.std.specs.HashMap.{get}
use Rattle.std.specs.Map.{update_all}
use Rattle.std.specs.Map.Iter.{deref_pair}
use Rattle.agent_keeper.specs.declared.batch.CheckName.{CheckName as Name}
use Rattle.agent_keeper.specs.Memory.{is_same}
use Rattle.agent_keeper.proofs.kept.copy_checks.Given as goal

abbrev pub invariant-loop-name : goal.invariant-loop-name
invariant-loop-name l = record {
  can_next : (goal.iterator-loop-name).can_next l.name-iterator;
  is_finite : (goal.iterator-loop-name).is_finite l.name-iterator;
  copied : (q : Name) → get is_same l.copy q ≡ update_all is_same (λ _. None) (map deref_pair l.yielded) q;
}
