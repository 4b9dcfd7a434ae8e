-- That `take_piece` keeps its contract.
use Rattle.std.proofs.Common.{length, rules, subst, sym, ◌≡◌, ◌<◌}
use Rattle.connection_service.proofs.ServingFacts.{fewer-over, fewer-piece, goes-over, none-of, over-at-end}
use Rattle.connection_service.proofs.serving.take_piece.Goals as goal
use Rattle.connection_service.specs.Serving.{FewerAhead, IsServing, IsWithin, ahead}
use Rattle.connection_service.specs.declared.serving.Going.{Going}
use Rattle.http_stream.specs.Stream.{Stream, with_more}

pub returns-then-is_empty-clause-goes : goal.returns-then-is_empty-clause-goes
returns-then-is_empty-clause-goes g c =
    let none : length c.args.piece.now ≡ 0 = search rules in
    λ operator opened at before serving unclosed undecided end.
    over-at-end operator opened before (g.D.Door.told c.args.door.now) c.args.feed.now at c.args.piece.now serving unclosed undecided (none-of c.args.piece.now none) (end none)

pub returns-in-Ok-clause-goes : goal.returns-in-Ok-clause-goes
returns-in-Ok-clause-goes g c =
    λ operator opened at before serving unclosed undecided end.
    subst (λ (left : Stream). IsServing operator opened before (g.D.Door.told c.args.door.now) left at) (sym c.in-Ok.ensures.ok) serving

pub returns-in-Ok-clause-fewer : goal.returns-in-Ok-clause-fewer
returns-in-Ok-clause-fewer g c =
    let some : 0 < length c.args.piece.now = search rules in
    λ within unclosed undecided few.
    subst (λ (left : Stream). IsWithin left × (ahead left < ahead c.args.feed.now)) (sym c.in-Ok.ensures.ok)
    (fewer-piece c.args.feed.now c.args.piece.now within unclosed undecided some few)

pub returns-in-Err-clause-goes : goal.returns-in-Err-clause-goes
returns-in-Err-clause-goes g c =
    λ operator opened at before serving unclosed undecided end.
    goes-over operator opened before (g.D.Door.told c.args.door.now) (g.D.Door.told c.close_for_memory.new.door) (with_more c.args.feed.now c.args.piece.now) c.push.new.self at c.close_for_memory.result
    serving unclosed c.close_for_memory.ensures.over

pub returns-in-Err-clause-fewer : goal.returns-in-Err-clause-fewer
returns-in-Err-clause-fewer g c =
    λ within unclosed undecided few.
    subst (λ (going : Going). FewerAhead going c.args.feed.now c.push.new.self) (sym c.close_for_memory.ensures.over.2)
    (fewer-over c.args.feed.now c.push.new.self c.close_for_memory.ensures.over.0)

pub returns-then-is_empty-clause-fewer : goal.returns-then-is_empty-clause-fewer
returns-then-is_empty-clause-fewer g c = λ within unclosed undecided few. tt
