-- That `Feed::show_call` keeps its contract.
use Rattle.std.proofs.Common.{◌∙◌, ◌+◌, List, ℕ, ap, sym}
use Rattle.std.specs.Option.{unwrap_or}
use Rattle.httparse.specs.Spans.{span_bytes}
use Rattle.agent_events.specs.declared.request.Request.{Request}
use Rattle.http_stream.specs.Stream.{Stream, after_item}
use Rattle.agent_http.specs.declared.calls.CallAsk.{CallAsk}
use Rattle.agent_http.proofs.StepLaws.{call-step}
use Rattle.agent_http.proofs.feed.Feed.show_call.Goals as goal

pub returns-clause-ok : goal.returns-clause-ok
returns-clause-ok c =
    let at = c.args.head in
    let view = c.self.view_is in
    let left = ap (λ (s : Stream). s.rest) view in
    call-step c.args.self.now at (CallAsk.Request (Request.Show c.args.account)) c.in_ok-key.key c.is_closed-last.result c.take.new.self
    c.requires.is_open c.requires.stands c.requires.within (sym c.requires.asked)
    (c.in_ok-key.ensures ∙ ap (λ (r : List ℕ). span_bytes r at.key) (c.rest.ensures ∙ left))
    (c.take.ensures ∙ ap (λ n. after_item at.closes n c.self.inside.intake) c.size_at-size.ensures
    ∙ ap (after_item at.closes (at.size + unwrap_or at.length 0)) view)
    c.is_closed-last.ensures
