-- That `serve_opened` keeps its contract.
use Rattle.std.proofs.Common.{Ok}
use Rattle.agent_run.proofs.RunFacts.{grown-by}
use Rattle.agent_run.proofs.ServingFacts.{served-behind}
use Rattle.agent_run.specs.Runs.{door_failed, service_at}
use Rattle.connection_service.specs.Answers.{clock_at}
use Rattle.connection_service.specs.InTurn.{door_at}
use Rattle.connection_service.specs.Serving.{at_of}
use Rattle.agent_run.proofs.serving.serve_opened.Goals as goal

pub returns-in-Ok-clause-served : goal.returns-in-Ok-clause-served
returns-in-Ok-clause-served g c = λ _.
    let call = c.listen_and_serve-ends in
    served-behind c.args.key.now c.args.connections
    (at_of c.args.desk.book.journal (g.K.Keeper.faults c.args.keeper.now) (g.C.Clock.last c.args.clock.now) (g.C.Clock.coming c.args.clock.now))
    (door_at (g.D.Door.is_connected c.args.door.now) (g.D.Door.told c.args.door.now) (g.D.Door.link_faults c.args.door.now))
    call.result (Ok tt) call.new.desk.book.journal
    (service_at (g.K.Keeper.tells call.new.keeper) (g.K.Keeper.faults call.new.keeper)
    (door_at (g.D.Door.is_connected call.new.door) (g.D.Door.told call.new.door) (g.D.Door.link_faults call.new.door))
    (clock_at (g.C.Clock.last call.new.clock) (g.C.Clock.coming call.new.clock)))
    call.ensures.served c.in-Ok.is call.ensures.told

pub returns-in-Ok-clause-grown : goal.returns-in-Ok-clause-grown
returns-in-Ok-clause-grown g c =
    grown-by (g.K.Keeper.tells c.listen_and_serve-ends.new.keeper) c.args.desk.book.journal c.listen_and_serve-ends.new.desk.book.journal
    c.listen_and_serve-ends.ensures.grown c.journal_is_lawful.ensures c.listen_and_serve-ends.ensures.told

pub returns-in-Err-clause-served_before : goal.returns-in-Err-clause-served_before
returns-in-Err-clause-served_before g c = λ _.
    let call = c.listen_and_serve-ends in
    served-behind c.args.key.now c.args.connections
    (at_of c.args.desk.book.journal (g.K.Keeper.faults c.args.keeper.now) (g.C.Clock.last c.args.clock.now) (g.C.Clock.coming c.args.clock.now))
    (door_at (g.D.Door.is_connected c.args.door.now) (g.D.Door.told c.args.door.now) (g.D.Door.link_faults c.args.door.now))
    call.result door_failed call.new.desk.book.journal
    (service_at (g.K.Keeper.tells call.new.keeper) (g.K.Keeper.faults call.new.keeper)
    (door_at (g.D.Door.is_connected call.new.door) (g.D.Door.told call.new.door) (g.D.Door.link_faults call.new.door))
    (clock_at (g.C.Clock.last call.new.clock) (g.C.Clock.coming call.new.clock)))
    call.ensures.served c.in-Err.is call.ensures.told

pub returns-in-Err-clause-grown : goal.returns-in-Err-clause-grown
returns-in-Err-clause-grown g c =
    grown-by (g.K.Keeper.tells c.listen_and_serve-ends.new.keeper) c.args.desk.book.journal c.listen_and_serve-ends.new.desk.book.journal
    c.listen_and_serve-ends.ensures.grown c.journal_is_lawful.ensures c.listen_and_serve-ends.ensures.told
