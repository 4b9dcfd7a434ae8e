-- That `apply` keeps its contract.
use Rattle.std.proofs.Common.{Err, ap, ◌∙◌}
use Rattle.std.proofs.Common.{inr}
use Rattle.agent_run.proofs.RunFacts.{stopped}
use Rattle.agent_run.specs.Runs.{status_line}
use Rattle.agent_run.proofs.applying.apply.Goals as goal

pub returns-in-Err-Damaged-clause-damaged : goal.returns-in-Err-Damaged-clause-damaged
returns-in-Err-Damaged-clause-damaged g c = λ is. (
  c.in-Err-Damaged.place,
  c.damaged.ensures.line,
  c.open.ensures.same,
  c.open.ensures.damaged c.in-Err-Damaged.place (c.in-Err-Damaged.is ∙ ap (λ fault. Err fault) c.in-Err-Damaged.field-0-is),
)

pub returns-in-Ok-clause-failed : goal.returns-in-Ok-clause-failed
returns-in-Ok-clause-failed g c = λ e.
    inr (stopped (status_line 5) _ _ (g.K.Keeper.tells c.open.new.keeper) _ _ _ _ _
    (λ last is first was. c.in-Ok.ensures.speaks (c.read_and_answer.ensures.was_honest (g.met.K.Keeper.honest c.read_and_answer.new.keeper last is)) first was)
    c.in-Ok.ensures.told c.in-Ok.ensures.lawful (c.read_and_answer.ensures.failed e))

pub returns-in-Ok-clause-no_memory : goal.returns-in-Ok-clause-no_memory
returns-in-Ok-clause-no_memory g c = λ e.
    inr (stopped (status_line 7) _ _ (g.K.Keeper.tells c.open.new.keeper) _ _ _ _ _
    (λ last is first was. c.in-Ok.ensures.speaks (c.read_and_answer.ensures.was_honest (g.met.K.Keeper.honest c.read_and_answer.new.keeper last is)) first was)
    c.in-Ok.ensures.told c.in-Ok.ensures.lawful (c.read_and_answer.ensures.no_memory e))
