-- What the feed gives of a stream.
use Rattle.std.specs.Prelude.{◌≡◌, ℕ, List, take, drop, unwrap_or}
use Rattle.httparse.specs.Spans.{span_bytes}
use Rattle.http_stream.specs.declared.head.HeadAt.{HeadAt}
use Rattle.http_stream.specs.Stream.{IsItem, Stream, StreamItem, Undecided}
use Rattle.agent_http.specs.declared.feed.Step.{Step}
use Rattle.agent_http.specs.declared.calls.CallAsk.{CallAsk}
use Rattle.agent_http.specs.Calls.{target_answer, ends, item_answer, item_key}

-- nothing where no further item is decided; else the next item's call or fault, which says whether the connection closes
abbrev pub StepsAs : Stream → Step → Stream → Type 0
StepsAs stream Step.Need after = Undecided stream × (after ≡ stream)
StepsAs stream (Step.Call call) after =
    (item : StreamItem) × IsItem ends stream item after × (item_answer item ≡ call.ask) × (call.key ≡ item_key item)
    × (call.last ≡ after.closed)
StepsAs stream (Step.Fault fault last) after =
    (item : StreamItem) × IsItem ends stream item after × (item_answer item ≡ CallAsk.Fault fault) × (last ≡ after.closed)

-- what the message asks whose head stands here
abbrev pub answer_at : List ℕ → HeadAt → CallAsk
answer_at rest at =
    target_answer (span_bytes rest at.target) (span_bytes rest at.method) at.length (take (unwrap_or at.length 0) (drop at.size rest))
