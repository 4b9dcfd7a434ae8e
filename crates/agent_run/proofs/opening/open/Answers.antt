-- That `open` keeps its contract.
use Rattle.agent_run.proofs.RunFacts.{opened-speaks, same-grow}
use Rattle.agent_run.proofs.opening.open.Goals as goal

pub returns-clause-speaks : goal.returns-clause-speaks
returns-clause-speaks g c =
    opened-speaks c.started.result (g.K.Keeper.tells c.args.keeper.now) (g.K.Keeper.tells c.attach.new.keeper) (g.K.Keeper.tells c.started.new.keeper)
    (g.K.Keeper.is_honest c.attach.new.keeper) (g.K.Keeper.is_honest c.started.new.keeper)
    c.in_ok-attach.ensures.speaks c.started.ensures.reads.was_honest c.started.ensures.speaks

pub returns-in_err-attach-clause-kept : goal.returns-in_err-attach-clause-kept
returns-in_err-attach-clause-kept g c =
    same-grow (g.K.Keeper.tells c.args.keeper.now) (g.K.Keeper.tells c.attach.new.keeper) c.attach.ensures.same
