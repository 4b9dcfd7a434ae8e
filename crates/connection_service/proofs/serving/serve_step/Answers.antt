-- That `serve_step` keeps its contract.
use Rattle.connection_service.proofs.BatchFacts.{call-lines}
use Rattle.connection_service.proofs.StepFacts.{need-fewer, need-open, need-serving, need-undecided, need-within, step-fewer-call, step-fewer-fault, step-goes-call, step-goes-fault}
use Rattle.connection_service.proofs.serving.serve_step.Goals as goal
use Rattle.connection_service.specs.Serving.{at_of}

pub returns-in-Need-clause-goes : goal.returns-in-Need-clause-goes
returns-in-Need-clause-goes g c =
    let at = at_of c.args.desk.now.book.journal (g.K.Keeper.faults c.args.keeper.now) (g.C.Clock.last c.args.clock.now) (g.C.Clock.coming c.args.clock.now) in
    λ stream opened before steps unclosed serving.
    c.read_on.ensures.goes c.args.operator.now opened at before
    (need-serving c.args.operator.now opened before (g.D.Door.told c.args.door.now) stream c.args.feed.now at c.args.step.now c.in-Need.is steps serving)
    (need-open stream c.args.feed.now c.args.step.now c.in-Need.is steps unclosed)
    (need-undecided stream c.args.feed.now c.args.step.now c.in-Need.is steps)

pub returns-in-Need-clause-fewer : goal.returns-in-Need-clause-fewer
returns-in-Need-clause-fewer g c =
    λ stream steps unclosed within.
    need-fewer stream c.args.feed.now c.read_on.new.feed c.args.step.now c.read_on.result c.in-Need.is steps
    (c.read_on.ensures.fewer
    (need-within stream c.args.feed.now c.args.step.now c.in-Need.is steps within)
    (need-open stream c.args.feed.now c.args.step.now c.in-Need.is steps unclosed)
    (need-undecided stream c.args.feed.now c.args.step.now c.in-Need.is steps))

pub returns-in-Call-clause-goes : goal.returns-in-Call-clause-goes
returns-in-Call-clause-goes g c =
    let old = at_of c.args.desk.now.book.journal (g.K.Keeper.faults c.args.keeper.now) (g.C.Clock.last c.args.clock.now) (g.C.Clock.coming c.args.clock.now) in
    let new = at_of c.serve_call.new.desk.book.journal (g.K.Keeper.faults c.serve_call.new.keeper) (g.C.Clock.last c.serve_call.new.clock) (g.C.Clock.coming c.serve_call.new.clock) in
    λ stream opened before steps unclosed serving.
    step-goes-call c.args.operator.now opened before (g.D.Door.told c.args.door.now) (g.D.Door.told c.serve_call.new.door) stream c.args.feed.now old new
    c.args.step.now c.in-Call.call c.serve_call.result c.in-Call.is steps serving c.serve_call.ensures.replied

pub returns-in-Call-clause-fewer : goal.returns-in-Call-clause-fewer
returns-in-Call-clause-fewer g c =
    let old = at_of c.args.desk.now.book.journal (g.K.Keeper.faults c.args.keeper.now) (g.C.Clock.last c.args.clock.now) (g.C.Clock.coming c.args.clock.now) in
    let new = at_of c.serve_call.new.desk.book.journal (g.K.Keeper.faults c.serve_call.new.keeper) (g.C.Clock.last c.serve_call.new.clock) (g.C.Clock.coming c.serve_call.new.clock) in
    λ stream steps unclosed within.
    step-fewer-call c.args.operator.now (g.D.Door.told c.args.door.now) (g.D.Door.told c.serve_call.new.door) stream c.args.feed.now old new
    c.args.step.now c.in-Call.call c.serve_call.result c.in-Call.is steps c.serve_call.ensures.replied within unclosed

pub returns-in-Fault-clause-goes : goal.returns-in-Fault-clause-goes
returns-in-Fault-clause-goes g c =
    let at = at_of c.args.desk.now.book.journal (g.K.Keeper.faults c.args.keeper.now) (g.C.Clock.last c.args.clock.now) (g.C.Clock.coming c.args.clock.now) in
    λ stream opened before steps unclosed serving.
    step-goes-fault c.args.operator.now opened before (g.D.Door.told c.args.door.now) (g.D.Door.told c.serve_fault.new.door) stream c.args.feed.now at
    c.args.step.now c.in-Fault.fault c.in-Fault.last c.serve_fault.result c.in-Fault.is steps serving c.serve_fault.ensures.on

pub returns-in-Fault-clause-fewer : goal.returns-in-Fault-clause-fewer
returns-in-Fault-clause-fewer g c =
    λ stream steps unclosed within.
    step-fewer-fault (g.D.Door.told c.args.door.now) (g.D.Door.told c.serve_fault.new.door) stream c.args.feed.now
    c.args.step.now c.in-Fault.fault c.in-Fault.last c.serve_fault.result c.in-Fault.is steps c.serve_fault.ensures.on within unclosed

pub serve_call-requires-clause-lines : goal.serve_call-requires-clause-lines
serve_call-requires-clause-lines g c =
    call-lines c.requires.step.0 c.args.feed.now c.args.step.now c.in-Call.call c.in-Call.is c.requires.step.1
