-- That `serve_next` keeps its contract.
use Rattle.std.proofs.Common.{subst, sym, ◌∙◌}
use Rattle.connection_service.proofs.ServingFacts.{fewer-over, goes-over, over-closed}
use Rattle.connection_service.proofs.serving.serve_next.Goals as goal
use Rattle.connection_service.specs.Serving.{FewerAhead, at_of}
use Rattle.connection_service.specs.declared.serving.Going.{Going}

pub returns-then-is_closed-clause-goes : goal.returns-then-is_closed-clause-goes
returns-then-is_closed-clause-goes g c =
    let at = at_of c.args.desk.now.book.journal (g.K.Keeper.faults c.args.keeper.now) (g.C.Clock.last c.args.clock.now) (g.C.Clock.coming c.args.clock.now) in
    λ opened before serving.
    over-closed c.args.operator.now opened before (g.D.Door.told c.args.door.now) c.args.feed.now at serving (sym c.is_closed.ensures ∙ c.if-is_closed.true)

pub returns-in-Ok-clause-goes : goal.returns-in-Ok-clause-goes
returns-in-Ok-clause-goes g c =
    λ opened before serving.
    c.serve_step.ensures.goes c.args.feed.now opened before c.in-Ok.ensures.ok (sym c.is_closed.ensures ∙ c.if-is_closed.false) serving

pub returns-in-Ok-clause-fewer : goal.returns-in-Ok-clause-fewer
returns-in-Ok-clause-fewer g c =
    λ within. c.serve_step.ensures.fewer c.args.feed.now c.in-Ok.ensures.ok (sym c.is_closed.ensures ∙ c.if-is_closed.false) within

pub returns-in-Err-clause-goes : goal.returns-in-Err-clause-goes
returns-in-Err-clause-goes g c =
    let at = at_of c.args.desk.now.book.journal (g.K.Keeper.faults c.args.keeper.now) (g.C.Clock.last c.args.clock.now) (g.C.Clock.coming c.args.clock.now) in
    λ opened before serving.
    goes-over c.args.operator.now opened before (g.D.Door.told c.args.door.now) (g.D.Door.told c.close_for_memory.new.door) c.args.feed.now c.next.new.self at c.close_for_memory.result
    serving (sym c.is_closed.ensures ∙ c.if-is_closed.false) c.close_for_memory.ensures.over

pub returns-in-Err-clause-fewer : goal.returns-in-Err-clause-fewer
returns-in-Err-clause-fewer g c =
    λ within.
    subst (λ (going : Going). FewerAhead going c.args.feed.now c.next.new.self) (sym c.close_for_memory.ensures.over.2)
    (fewer-over c.args.feed.now c.next.new.self c.close_for_memory.ensures.over.0)

pub serve_step-requires-clause-step : goal.serve_step-requires-clause-step
serve_step-requires-clause-step g c = (c.args.feed.now, c.in-Ok.ensures.ok)
