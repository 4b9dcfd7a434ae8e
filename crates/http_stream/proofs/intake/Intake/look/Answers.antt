-- That `Intake::look` keeps its contract.
use Rattle.std.proofs.Common.{Option, subst}
use Rattle.http_stream.specs.declared.head.HeadAt.{HeadAt}
use Rattle.http_stream.specs.Kept.{StandsAt}
use Rattle.http_stream.specs.Stream.{Stream}
use Rattle.http_stream.proofs.intake.Intake.look.Goals as goal

pub whole_or_wait-requires-clause-stands : goal.whole_or_wait-requires-clause-stands
whole_or_wait-requires-clause-stands c =
    let P : Option HeadAt → Type 0 = λ waiting. StandsAt c.args.self.now.rest waiting in
    let Q : Stream → Type 0 = λ stream. StandsAt stream.rest c.self.inside.waiting in
    subst P c.in-Some.is (subst Q c.self.view_is c.self.invariant.1.stands)
