-- That `Feed::other_call` keeps its contract.
use Rattle.std.proofs.Common.{◌∙◌, ◌+◌, Bool, List, ℕ, ap, sym}
use Rattle.std.specs.Option.{unwrap_or}
use Rattle.httparse.specs.Spans.{span_bytes}
use Rattle.http_stream.specs.Stream.{Stream, after_item}
use Rattle.agent_http.specs.Calls.{closes_by}
use Rattle.agent_http.specs.Steps.{answer_at}
use Rattle.agent_http.specs.declared.calls.CallAsk.{CallAsk}
use Rattle.agent_http.proofs.StepLaws.{call-step, fault-step}
use Rattle.agent_http.proofs.feed.Feed.other_call.Goals as goal

pub returns-in-Fault-clause-ok : goal.returns-in-Fault-clause-ok
returns-in-Fault-clause-ok c =
    let at = c.args.head in
    let view = c.self.view_is in
    let left = ap (λ (s : Stream). s.rest) view in
    let closes = c.closes_by-closes.ensures ∙ ap (closes_by at.closes) c.in-Fault.is in
    fault-step c.args.self.now at c.in-Fault.fault c.is_closed-last.result c.take.new.self c.requires.is_open c.requires.stands c.requires.within
    (sym c.in-Fault.is ∙ c.in_ok-ask.ensures ∙ ap (λ (r : List ℕ). answer_at r at) (c.rest-2.ensures ∙ left))
    (c.take.ensures ∙ ap (λ n. after_item c.closes_by-closes.result n c.self.inside.intake) c.size_at-size.ensures
    ∙ ap (λ (b : Bool). after_item b (at.size + unwrap_or at.length 0) c.self.inside.intake) closes
    ∙ ap (after_item (closes_by at.closes (CallAsk.Fault c.in-Fault.fault)) (at.size + unwrap_or at.length 0)) view)
    c.is_closed-last.ensures

pub returns-clause-ok : goal.returns-clause-ok
returns-clause-ok c =
    let at = c.args.head in
    let view = c.self.view_is in
    let left = ap (λ (s : Stream). s.rest) view in
    call-step c.args.self.now at c.in_ok-ask.ask c.in_ok-key.key c.is_closed-last-2.result c.take-2.new.self c.requires.is_open c.requires.stands c.requires.within
    (c.in_ok-ask.ensures ∙ ap (λ (r : List ℕ). answer_at r at) (c.rest-2.ensures ∙ left))
    (c.in_ok-key.ensures ∙ ap (λ (r : List ℕ). span_bytes r at.key) (c.rest-3.ensures ∙ left))
    (c.take-2.ensures ∙ ap (λ n. after_item c.closes_by-closes.result n c.self.inside.intake) c.size_at-size.ensures
    ∙ ap (λ (b : Bool). after_item b (at.size + unwrap_or at.length 0) c.self.inside.intake) c.closes_by-closes.ensures
    ∙ ap (after_item (closes_by at.closes c.in_ok-ask.ask) (at.size + unwrap_or at.length 0)) view)
    c.is_closed-last-2.ensures
