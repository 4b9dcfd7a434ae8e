-- That `read_on` keeps its contract.
use Rattle.std.proofs.Common.{arith, length, take, ◌<◌, ◌≤◌}
use Rattle.std.proofs.lemmas.List.{length-take}
use Rattle.connection_service.proofs.ServingFacts.{over-unread, serving-read, told-end, told-same}
use Rattle.connection_service.proofs.serving.read_on.Goals as goal

pub returns-in-Ok-clause-goes : goal.returns-in-Ok-clause-goes
returns-in-Ok-clause-goes g c =
    let some : 0 < length c.read.new.into = omega arith in
    λ operator opened at before serving unclosed undecided.
    c.take_piece.ensures.goes operator opened at before
    (serving-read operator opened before (g.D.Door.told c.args.door.now) (g.D.Door.told c.read.new.self) c.args.feed.now at c.read.new.into c.in-Ok.count
    serving c.in-Ok.ensures.within c.in-Ok.ensures.bytes c.in-Ok.ensures.links)
    unclosed undecided
    (told-end (g.D.Door.told c.args.door.now) (g.D.Door.told c.read.new.self) c.read.new.into c.in-Ok.count c.in-Ok.ensures.within c.in-Ok.ensures.only_at_end some c.in-Ok.ensures.links)

pub returns-in-Ok-clause-fewer : goal.returns-in-Ok-clause-fewer
returns-in-Ok-clause-fewer g c =
    let size = length-take c.in-Ok.count c.read.new.into in
    let within_piece = c.in-Ok.ensures.within in
    let few : length (take c.in-Ok.count c.read.new.into) ≤ 4096 = omega arith in
    λ within unclosed undecided. c.take_piece.ensures.fewer within unclosed undecided few

pub returns-in-Err-clause-goes : goal.returns-in-Err-clause-goes
returns-in-Err-clause-goes g c =
    λ operator opened at before serving unclosed undecided.
    over-unread operator opened before (g.D.Door.told c.read.new.self) c.args.feed.now at
    (told-same operator opened before (g.D.Door.told c.args.door.now) (g.D.Door.told c.read.new.self) c.args.feed.now at serving c.in-Err.ensures.kept)
    unclosed undecided
