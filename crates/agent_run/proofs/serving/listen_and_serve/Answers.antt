-- That `listen_and_serve` keeps its contract.
use Rattle.std.proofs.lemmas.Result.{err_from_is_err_and}
use Rattle.agent_run.proofs.ServingFacts.{same-door, served-none}
use Rattle.connection_service.specs.InTurn.{door_at}
use Rattle.connection_service.specs.Serving.{at_of}
use Rattle.agent_run.proofs.serving.listen_and_serve.Goals as goal

pub returns-in_err-listen-clause-served : goal.returns-in_err-listen-clause-served
returns-in_err-listen-clause-served g c =
    let exit = err_from_is_err_and c.from_residual.result c.from_residual.ensures.1 in
    let was = c.args.door.now in
    let now = c.listen.new.self in
    served-none c.args.key.now c.args.connections
    (at_of c.args.desk.now.book.journal (g.K.Keeper.faults c.args.keeper.now) (g.C.Clock.last c.args.clock.now) (g.C.Clock.coming c.args.clock.now))
    (door_at (g.D.Door.is_connected was) (g.D.Door.told was) (g.D.Door.link_faults was))
    (door_at (g.D.Door.is_connected now) (g.D.Door.told now) (g.D.Door.link_faults now))
    c.from_residual.result exit.0 exit.1
    (same-door (g.D.Door.is_connected was) (g.D.Door.is_connected now) (g.D.Door.told was) (g.D.Door.told now) (g.D.Door.link_faults was) (g.D.Door.link_faults now)
    c.listen.ensures.connected c.listen.ensures.links c.listen.ensures.link)
