-- That `read_text` keeps its contract.
use Rattle.std.proofs.Common.{refl, ap}
use Rattle.http_stream.specs.Stream.{Shown, behind}
use Rattle.http_stream.proofs.HeadLaws.{head-take}
use Rattle.http_stream.proofs.intake.read_text.Goals as goal

pub returns-in-NoHead : goal.returns-in-NoHead
returns-in-NoHead c = (Shown.Unreadable, (c.args.size, c.requires.shown, c.in-NoHead.ensures), refl)

pub returns-in-Refused : goal.returns-in-Refused
returns-in-Refused c =
    let found = c.in-Refused.ensures in
    (Shown.Head found.0, (c.args.size, c.requires.shown, found.1), ap (λ said. behind found.0 said c.args.rest.now) found.2)

pub returns-in-Head : goal.returns-in-Head
returns-in-Head c =
    let found = c.in-Head.ensures in
    (found.0, (c.args.size, c.requires.shown, found.1), head-take c.args.rest.now c.args.size found.0 c.in-Head.head found.2)
