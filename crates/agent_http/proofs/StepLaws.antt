-- A whole message gives the next item of its stream.
use Rattle.std.proofs.Common.{◌≡◌, ◌≤◌, ℕ, ◌+◌, Bool, true, false, cond, leb, List, length, take, drop, Some, None, refl, sym, ap, ◌∙◌, arith}
use Rattle.std.specs.Option.{unwrap_or}
use Rattle.std.proofs.lemmas.Bool.Decides.{nat_tests}
use Rattle.httparse.specs.Grammar.{RequestHead, print_request}
use Rattle.httparse.specs.Spans.{span_bytes}
use Rattle.http_stream.specs.declared.fault.HttpFault.{HttpFault}
use Rattle.http_stream.specs.declared.head.HeadAt.{HeadAt}
use Rattle.http_stream.specs.Kept.{StandsAt}
use Rattle.http_stream.specs.Stream.{IsHeadAt, IsItem, Message, Shown, Shows, Stream, StreamItem, after_item, behind, body_at, found_of, message_of, size_of}
use Rattle.agent_http.specs.declared.calls.CallAsk.{CallAsk}
use Rattle.agent_http.specs.declared.feed.Step.{Step}
use Rattle.agent_http.specs.Calls.{answer, target_answer, closes_by, ends}
use Rattle.agent_http.specs.Steps.{StepsAs, answer_at}

abbrev message_at : RequestHead → HeadAt → List ℕ → Message
message_at head at rest = message_of head at.length (body_at head at.length rest)

answer-is : (rest : List ℕ) (head : RequestHead) (at : HeadAt) → IsHeadAt rest head at → answer_at rest at ≡ answer (message_at head at rest)
answer-is rest head at is =
    ap (λ target. target_answer target (span_bytes rest at.method) at.length (take (unwrap_or at.length 0) (drop at.size rest))) is.target
    ∙ ap (λ method. target_answer head.target method at.length (take (unwrap_or at.length 0) (drop at.size rest))) is.method
    ∙ ap (λ size. target_answer head.target head.method at.length (take (unwrap_or at.length 0) (drop size rest))) is.size

found-is : (rest : List ℕ) (head : RequestHead) (at : HeadAt) → IsHeadAt rest head at → at.size + unwrap_or at.length 0 ≤ length rest
    → found_of rest (Shown.Head head) ≡ Some (StreamItem.Whole (message_at head at rest), size_of head at.length)
found-is rest head at is within =
    let size : at.size ≡ length (print_request head) = is.size in
    let test : leb (size_of head at.length) (length rest) ≡ true = grind (arith, nat_tests) in
    ap (λ said. behind head said rest) is.length
    ∙ ap (λ b. cond b (Some (StreamItem.Whole (message_at head at rest), size_of head at.length)) None) test

the-item : (stream : Stream) (head : RequestHead) (at : HeadAt) (ask : CallAsk) (after : Stream) → stream.closed ≡ false
    → Shows stream.rest (Shown.Head head) → IsHeadAt stream.rest head at → at.size + unwrap_or at.length 0 ≤ length stream.rest
    → answer (message_at head at stream.rest) ≡ ask → after ≡ after_item (closes_by at.closes ask) (at.size + unwrap_or at.length 0) stream
    → IsItem ends stream (StreamItem.Whole (message_at head at stream.rest)) after
the-item stream head at ask after unclosed shows is within asks then_ = record {
  shown = Shown.Head head;
  used = size_of head at.length;
  is_open = unclosed;
  shows = shows;
  found = found-is stream.rest head at is within;
  after_is = then_
      ∙ ap (λ size. after_item (closes_by at.closes ask) (size + unwrap_or at.length 0) stream) is.size
      ∙ ap (λ closes. after_item (closes_by closes ask) (size_of head at.length) stream) is.closes
      ∙ ap (λ said. after_item (closes_by (message_at head at stream.rest).closes said) (size_of head at.length) stream) (sym asks);
}

pub call-step : (stream : Stream) (at : HeadAt) (ask : CallAsk) (key : List ℕ) (last : Bool) (after : Stream) → stream.closed ≡ false
    → StandsAt stream.rest (Some at) → at.size + unwrap_or at.length 0 ≤ length stream.rest → ask ≡ answer_at stream.rest at
    → key ≡ span_bytes stream.rest at.key → after ≡ after_item (closes_by at.closes ask) (at.size + unwrap_or at.length 0) stream → last ≡ after.closed
    → StepsAs stream (Step.Call (record { key = key; ask = ask; last = last })) after
call-step stream at ask key last after unclosed stands within asks named then_ ends_so =
    let head = stands.0 in
    let said : answer (message_at head at stream.rest) ≡ ask = sym (answer-is stream.rest head at stands.2) ∙ sym asks in (
      StreamItem.Whole (message_at head at stream.rest),
      the-item stream head at ask after unclosed stands.1 stands.2 within said then_,
      said,
      named ∙ stands.2.key,
      ends_so,
    )

pub fault-step : (stream : Stream) (at : HeadAt) (fault : HttpFault) (last : Bool) (after : Stream) → stream.closed ≡ false
    → StandsAt stream.rest (Some at) → at.size + unwrap_or at.length 0 ≤ length stream.rest → CallAsk.Fault fault ≡ answer_at stream.rest at
    → after ≡ after_item (closes_by at.closes (CallAsk.Fault fault)) (at.size + unwrap_or at.length 0) stream → last ≡ after.closed
    → StepsAs stream (Step.Fault fault last) after
fault-step stream at fault last after unclosed stands within asks then_ ends_so =
    let head = stands.0 in
    let said : answer (message_at head at stream.rest) ≡ CallAsk.Fault fault = sym (answer-is stream.rest head at stands.2) ∙ sym asks in (
      StreamItem.Whole (message_at head at stream.rest),
      the-item stream head at (CallAsk.Fault fault) after unclosed stands.1 stands.2 within said then_,
      said,
      ends_so,
    )

pub closing-step : (stream : Stream) (fault : HttpFault) (shown : Shown) (after : Stream) → stream.closed ≡ false → Shows stream.rest shown
    → found_of stream.rest shown ≡ Some (StreamItem.Closing fault, 0) → after ≡ after_item true 0 stream → StepsAs stream (Step.Fault fault true) after
closing-step stream fault shown after unclosed shows found then_ = (
  StreamItem.Closing fault,
  record {
    shown = shown;
    used = 0;
    is_open = unclosed;
    shows = shows;
    found = found;
    after_is = then_;
  },
  refl,
  sym (ap (λ s. s.closed) then_),
)
