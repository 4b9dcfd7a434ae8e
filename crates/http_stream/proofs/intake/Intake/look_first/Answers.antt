-- That `Intake::look_first` keeps its contract.
use Rattle.std.proofs.Common.{List, ℕ, take, ap, ◌∙◌, subst}
use Rattle.http_stream.specs.Lines.{head_limit}
use Rattle.http_stream.specs.Reading.{FoundAs}
use Rattle.http_stream.specs.declared.head.Parsed.{Parsed}
use Rattle.http_stream.proofs.HeadLaws.{head-take}
use Rattle.http_stream.proofs.HeadLines.{head-shows}
use Rattle.http_stream.proofs.intake.Intake.look_first.Goals as goal

pub whole_or_wait-requires-clause-stands : goal.whole_or_wait-requires-clause-stands
whole_or_wait-requires-clause-stands c =
    let P : List ℕ → Type 0 = λ text. FoundAs text (Parsed.Head c.in-Head.head) in
    let found = subst P (c.window_of.ensures ∙ ap (take head_limit) c.rest.ensures) c.in-Head.ensures in
    let rest = c.args.self.now.rest in
    (found.0, head-shows rest found.0 found.1, head-take rest head_limit found.0 c.in-Head.head found.2)
