-- What an item of a stream asks: its route by the path and the method, and then the verb by its body or by the parts of the path.
use Rattle.std.specs.Prelude.{ℕ, Bool, true, false, ◌&&◌, ◌||◌, not, ◌==◌, nat_le, List, [], length, drop, map, if◌then◌else◌, Option, Ok, Err, codes, bytes_eq, is_some}
use Rattle.std.specs.List.{before_first, list_all, slice_split}
use Rattle.script_text.specs.Rows.{records_of}
use Rattle.agent_events.specs.Forms.{field}
use Rattle.agent_events.specs.Items.{asked_by, batch_line}
use Rattle.agent_events.specs.JsonForms.{is_posted}
use Rattle.agent_events.specs.VerbForms.{Asked}
use Rattle.http_stream.specs.declared.fault.HttpFault.{HttpFault}
use Rattle.http_stream.specs.Stream.{Message, StreamItem}
use Rattle.agent_http.specs.Bodies.{asked_by_body}
use Rattle.agent_http.specs.declared.calls.CallAsk.{CallAsk}
use Rattle.agent_http.specs.declared.routes.Route.{Route}

-- the path is the target up to a question mark, as it stands
abbrev pub is_question : ℕ → Bool
is_question byte = byte == 63

abbrev pub path_of : List ℕ → List ℕ
path_of target = before_first is_question target

abbrev pub is_slash : ℕ → Bool
is_slash byte = byte == 47

-- its parts between slashes; the first stands before the first slash
abbrev pub parts_of : List ℕ → List (List ℕ)
parts_of path = slice_split is_slash path

abbrev pub is_filled : List ℕ → Bool
is_filled part = not (length part == 0)

abbrev pub is_body_verb : List ℕ → Bool
is_body_verb verb = is_posted verb || (bytes_eq verb (codes "enter") || bytes_eq verb (codes "replace"))

abbrev pub verb_route : List ℕ → Route
verb_route verb =
    if bytes_eq verb (codes "batch") then Route.Batch
    else if bytes_eq verb (codes "books") then Route.Look
    else if is_body_verb verb then Route.Posted
    else Route.Missing

abbrev pub look_route : List ℕ → List ℕ → Route
look_route verb known = if bytes_eq verb known then Route.Look else Route.Missing

-- the route by the parts behind `/v1/`: a verb alone, or a look at an account, an order or a period with its parts
abbrev pub route_in : List (List ℕ) → Route
route_in parts =
    if length parts == 1 then verb_route (field parts 1)
    else if length parts == 2 then look_route (field parts 1) (codes "show")
    else if length parts == 3 then look_route (field parts 1) (codes "trace")
    else if length parts == 4 then look_route (field parts 1) (codes "statement")
    else Route.Missing

abbrev pub is_rooted : List (List ℕ) → Bool
is_rooted parts = bytes_eq (field parts 1) [] && bytes_eq (field parts 2) (codes "v1")

abbrev pub route_of : List (List ℕ) → Route
route_of parts =
    if is_rooted parts && list_all is_filled (drop 2 parts) then route_in (drop 2 parts) else Route.Missing

-- a request, or the place of the first field that isn't in its form
abbrev pub ask_of : Asked → CallAsk
ask_of (Ok request) = CallAsk.Request request
ask_of (Err place) = CallAsk.BadForm place

-- a batch of at most 4,096 lines, each by itself; more are no batch
abbrev pub batch_ask : List ℕ → CallAsk
batch_ask body =
    if nat_le (length (records_of body)) 4096
    then CallAsk.Batch (map batch_line (records_of body))
    else CallAsk.BadForm 0

-- a POST says how long its body is
abbrev pub with_length : Option ℕ → CallAsk → CallAsk
with_length size asks = if is_some size then asks else CallAsk.Fault HttpFault.S411

-- what a request asks, or its fault: no route has the path, the route hasn't the method, a POST has no length
abbrev pub answered_at : Route → List (List ℕ) → List ℕ → Option ℕ → List ℕ → CallAsk
answered_at Route.Missing parts method size body = CallAsk.Fault HttpFault.S404
answered_at Route.Batch parts method size body =
    if bytes_eq method (codes "POST") then with_length size (batch_ask body) else CallAsk.Fault HttpFault.S405
answered_at Route.Posted parts method size body =
    if bytes_eq method (codes "POST")
    then with_length size (ask_of (asked_by_body (field parts 3) body))
    else CallAsk.Fault HttpFault.S405
answered_at Route.Look parts method size body =
    if bytes_eq method (codes "GET") then ask_of (asked_by (field parts 3) (drop 3 parts)) else CallAsk.Fault HttpFault.S405

abbrev pub answered_by : List (List ℕ) → List ℕ → Option ℕ → List ℕ → CallAsk
answered_by parts method size body = answered_at (route_of parts) parts method size body

abbrev pub target_answer : List ℕ → List ℕ → Option ℕ → List ℕ → CallAsk
target_answer target method size body = answered_by (parts_of (path_of target)) method size body

abbrev pub answer : Message → CallAsk
answer message = target_answer message.target message.method message.length message.body

-- a fault that closes the connection
abbrev pub fault_closes : HttpFault → Bool
fault_closes HttpFault.S404 = false
fault_closes HttpFault.S405 = false
fault_closes fault = true

abbrev pub closes_by : Bool → CallAsk → Bool
closes_by closes (CallAsk.Fault fault) = closes || fault_closes fault
closes_by closes asks = closes

-- whether a message closes the connection
abbrev pub ends : Message → Bool
ends message = closes_by message.closes (answer message)

abbrev pub item_answer : StreamItem → CallAsk
item_answer (StreamItem.Closing fault) = CallAsk.Fault fault
item_answer (StreamItem.Whole message) = answer message

abbrev pub item_key : StreamItem → List ℕ
item_key (StreamItem.Closing fault) = []
item_key (StreamItem.Whole message) = message.key
