-- That `copy_checks` keeps its contract.
use Rattle.std.proofs.Common.{◌≡◌, map, rules, refl, ◌∙◌}
use Rattle.std.specs.Map.Iter.{deref_pair}
use Rattle.std.proofs.lemmas.Map.Iter.{iter_end}
use Rattle.std.proofs.lemmas.Map.Made.{update_all_none}
use Rattle.agent_keeper.specs.Memory.{is_same}
use Rattle.agent_keeper.proofs.CopyLemmas.{put_copied, names_equiv}
use Rattle.agent_keeper.proofs.kept.copy_checks.Goals as goal

pub loop-name-preserved-in_ok-insert : goal.loop-name-preserved-in_ok-insert
loop-name-preserved-in_ok-insert c = record {
  can_next = tt;
  is_finite = tt;
  copied = λ q. put_copied _ _ c.loop-name.yielded c.in-Some.name c.in-Some.bytes _ q (c.in_ok-from_slice.ensures ∙ c.as_slice.ensures) (c.loop-name.invariant.copied q) (c.in_ok-insert.ensures.updates.0 q);
}

pub loop-name-preserved : goal.loop-name-preserved
loop-name-preserved c = record {
  can_next = tt;
  is_finite = tt;
  copied = λ q. put_copied _ _ c.loop-name.yielded c.in-Some.name c.in-Some.bytes _ q (c.in_ok-from_slice.ensures ∙ c.as_slice.ensures) (c.loop-name.invariant.copied q) (c.in_ok-insert.ensures.updates.0 q);
}

pub returns : goal.returns
returns c =
    let all : map deref_pair c.loop-name.yielded ≡ c.args.checks.now.entries = search (rules, iter_end) in
    λ q. c.loop-name.invariant.copied q ∙ rw all (update_all_none names_equiv is_same (λ _ _. refl) c.args.checks.now.entries q c.into_iter-name-iterator.ensures.into_iter_gives.4)
