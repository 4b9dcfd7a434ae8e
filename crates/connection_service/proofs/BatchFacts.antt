-- A batch that a stream gives asks lines; and what is said to it is what was prepared.
use Rattle.std.proofs.Common.{Bool, Err, List, None, Ok, Option, Some, cond, false, length, map, nat_le, refl, subst, true, ℕ, ◌&&◌, ◌==◌, ◌≡◌}
use Rattle.std.specs.List.{list_all}
use Rattle.std.specs.Prelude.{bytes_eq, codes, drop}
use Rattle.agent_events.specs.Forms.{field}
use Rattle.agent_events.specs.Items.{asked_by, batch_line}
use Rattle.agent_events.specs.VerbForms.{Asked}
use Rattle.agent_events.specs.declared.reply.Refusal.{Refusal}
use Rattle.agent_events.specs.declared.verdict.Caller.{Caller}
use Rattle.connection_service.specs.Answers.{batch_asks_lines, batch_text, said_to_batch, said_to_lines}
use Rattle.script_text.specs.Rows.{records_of}
use Rattle.dealer_lines.proofs.LinesAsked.{lines_asked}
use Rattle.agent_http.specs.Bodies.{asked_by_body}
use Rattle.agent_http.specs.Calls.{answered_at, answered_by, ask_of, batch_ask, is_body_verb, is_filled, is_rooted, item_answer, look_route, parts_of, path_of, route_in, verb_route, with_length}
use Rattle.agent_http.specs.Steps.{StepsAs}
use Rattle.agent_http.specs.declared.calls.CallAsk.{CallAsk}
use Rattle.agent_http.specs.declared.feed.Call.{Call}
use Rattle.agent_http.specs.declared.feed.Step.{Step}
use Rattle.http_stream.specs.Stream.{Stream, StreamItem}
use Rattle.http_stream.specs.declared.fault.HttpFault.{HttpFault}
use Rattle.register_desk.specs.PreparedBatches.{batch_given}
use Rattle.register_machine.specs.rules.Situations.{Situation}
use Rattle.register_machine.specs.run.Batches.{BatchAnswer, batch_after_lines, batch_answer, is_dealer_caller}

-- ---- what a call asks

abbrev AsksLines : CallAsk → Type 0
AsksLines ask = batch_asks_lines ask ≡ true

when-lines : (holds : Bool) (asks : CallAsk) (fault : HttpFault) → AsksLines asks → AsksLines (cond holds asks (CallAsk.Fault fault))
when-lines true asks fault lines = lines
when-lines false asks fault lines = refl

sized-lines : (size : Option ℕ) (ask : CallAsk) → AsksLines ask → AsksLines (with_length size ask)
sized-lines None ask lines = refl
sized-lines (Some count) ask lines = lines

one-lines : (asked : Asked) → AsksLines (ask_of asked)
one-lines (Ok request) = refl
one-lines (Err place) = refl

batch-lines : (body : List ℕ) → AsksLines (batch_ask body)
batch-lines body = by_count (nat_le (length (records_of body)) 4096)
  where
    by_count : (few : Bool) → AsksLines (cond few (CallAsk.Batch (map batch_line (records_of body))) (CallAsk.BadForm 0))
    by_count true = lines_asked (records_of body)
    by_count false = refl

-- the route is made by tests alone, so what holds of both of a test's routes holds of the one that is taken
by-test : {R : Type 0} (answer_at : R → CallAsk) (holds : Bool) (one other : R) → AsksLines (answer_at one) → AsksLines (answer_at other)
    → AsksLines (answer_at (cond holds one other))
by-test answer_at true one other first second = first
by-test answer_at false one other first second = second

posted-lines : (method : List ℕ) (size : Option ℕ) (ask : CallAsk) → AsksLines ask
    → AsksLines (cond (bytes_eq method (codes "POST")) (with_length size ask) (CallAsk.Fault HttpFault.S405))
posted-lines method size ask lines = when-lines (bytes_eq method (codes "POST")) (with_length size ask) HttpFault.S405 (sized-lines size ask lines)

got-lines : (method : List ℕ) (asked : Asked) → AsksLines (cond (bytes_eq method (codes "GET")) (ask_of asked) (CallAsk.Fault HttpFault.S405))
got-lines method asked = when-lines (bytes_eq method (codes "GET")) (ask_of asked) HttpFault.S405 (one-lines asked)

verb-lines : (verb : List ℕ) (parts : List (List ℕ)) (method : List ℕ) (size : Option ℕ) (body : List ℕ) → AsksLines (answered_at (verb_route verb) parts method size body)
verb-lines verb parts method size body =
    by-test (λ route. answered_at route parts method size body) (bytes_eq verb (codes "batch")) _ _
    (posted-lines method size (batch_ask body) (batch-lines body))
    (by-test (λ route. answered_at route parts method size body) (bytes_eq verb (codes "books")) _ _
    (got-lines method (asked_by (field parts 3) (drop 3 parts)))
    (by-test (λ route. answered_at route parts method size body) (is_body_verb verb) _ _
    (posted-lines method size (ask_of (asked_by_body (field parts 3) body)) (one-lines (asked_by_body (field parts 3) body)))
    refl))

look-lines : (verb known : List ℕ) (parts : List (List ℕ)) (method : List ℕ) (size : Option ℕ) (body : List ℕ) → AsksLines (answered_at (look_route verb known) parts method size body)
look-lines verb known parts method size body =
    by-test (λ route. answered_at route parts method size body) (bytes_eq verb known) _ _
    (got-lines method (asked_by (field parts 3) (drop 3 parts)))
    refl

behind-lines : (behind parts : List (List ℕ)) (method : List ℕ) (size : Option ℕ) (body : List ℕ) → AsksLines (answered_at (route_in behind) parts method size body)
behind-lines behind parts method size body =
    by-test (λ route. answered_at route parts method size body) (length behind == 1) _ _ (verb-lines (field behind 1) parts method size body)
    (by-test (λ route. answered_at route parts method size body) (length behind == 2) _ _ (look-lines (field behind 1) (codes "show") parts method size body)
    (by-test (λ route. answered_at route parts method size body) (length behind == 3) _ _ (look-lines (field behind 1) (codes "trace") parts method size body)
    (by-test (λ route. answered_at route parts method size body) (length behind == 4) _ _ (look-lines (field behind 1) (codes "statement") parts method size body)
    refl)))

parts-lines : (parts : List (List ℕ)) (method : List ℕ) (size : Option ℕ) (body : List ℕ) → AsksLines (answered_by parts method size body)
parts-lines parts method size body =
    by-test (λ route. answered_at route parts method size body) (is_rooted parts && list_all is_filled (drop 2 parts)) _ _
    (behind-lines (drop 2 parts) parts method size body)
    refl

item-lines : (item : StreamItem) → AsksLines (item_answer item)
item-lines (StreamItem.Closing fault) = refl
item-lines (StreamItem.Whole message) = parts-lines (parts_of (path_of message.target)) message.method message.length message.body

pub call-lines : (stream after : Stream) (step : Step) (call : Call) → step ≡ Step.Call call → StepsAs stream step after → batch_asks_lines call.ask ≡ true
call-lines stream after step call is steps =
    let (item, one, asks, key, last) = subst (λ (known : Step). StepsAs stream known after) is steps in
    subst AsksLines asks (item-lines item)

-- ---- what is said to a batch: the text of the replies that were prepared

pub batch-bytes : (last : Bool) (lines : List Asked) (situation : Situation) (prepared : BatchAnswer)
    → batch_given (batch_answer situation (Ok lines)) ≡ prepared → (said_to_batch last lines situation).bytes ≡ batch_text situation.caller prepared.replies last
batch-bytes last lines situation prepared is =
    subst (λ (given : BatchAnswer). (said_to_batch last lines situation).bytes ≡ batch_text situation.caller given.replies last) is
    (by_caller situation.caller (batch_after_lines situation lines))
  where
    by_caller : (caller : Caller) (answered : BatchAnswer)
        → (said_to_lines last (cond (is_dealer_caller caller) (Ok answered) (Err Refusal.NoRight))).bytes
        ≡ batch_text caller (batch_given (cond (is_dealer_caller caller) (Ok answered) (Err Refusal.NoRight))).replies last
    by_caller (Caller.Dealer dealer) answered = refl
    by_caller Caller.Operator answered = refl
    by_caller (Caller.Household household) answered = refl
    by_caller Caller.Stranger answered = refl
