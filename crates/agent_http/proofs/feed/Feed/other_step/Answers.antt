-- That `Feed::other_step` keeps its contract.
use Rattle.std.proofs.Common.{◌∙◌, ap, subst, true}
use Rattle.http_stream.specs.declared.intake.Front.{Front}
use Rattle.http_stream.specs.Stream.{LooksAs, after_item}
use Rattle.agent_http.proofs.StepLaws.{closing-step}
use Rattle.agent_http.proofs.feed.Feed.other_step.Goals as goal

pub returns-in-Closing-clause-ok : goal.returns-in-Closing-clause-ok
returns-in-Closing-clause-ok c =
    let P : Front → Type 0 = λ front. LooksAs c.args.self.now front in
    let found = subst P c.in-Closing.is c.requires.looks in
    closing-step c.args.self.now c.in-Closing.fault found.1 c.take.new.self found.0 found.2 found.3
    (c.take.ensures ∙ ap (after_item true 0) c.self.view_is)
