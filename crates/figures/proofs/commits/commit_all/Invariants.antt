-- What holds at each turn of the loops of `commit_all`.
use Rattle.std.proofs.Common.{IsTrue, length, ◌≡◌}
use Rattle.agent_keeper.specs.Content.{Content}
use Rattle.figures.proofs.commits.commit_all.Given as goal

abbrev pub invariant-loop-base : goal.invariant-loop-base
invariant-loop-base g l = record {
  attached : IsTrue (g.K.Keeper.is_attached l.keeper);
  base : (kept : Content) → g.K.Keeper.tells l.keeper kept → l.base ≡ length kept.rows;
}
