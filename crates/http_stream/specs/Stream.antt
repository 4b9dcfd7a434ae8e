-- The items of a stream (RFC 9112, sections 2, 6 and 9). Only what the front of a stream shows is a relation, since the grammar of
-- heads is one; all behind it is a function.
use Rattle.std.specs.Prelude.{◌≡◌, ◌≤◌, ℕ, ◌+◌, Bool, true, false, ◌||◌, nat_le, ◌==◌, if◌then◌else◌, List, [], ◌∷◌, ◌++◌, length, take, drop, Option, Some, None, Result, Ok, Err, unwrap_or, ◌⊎◌}
use Rattle.httparse.specs.Grammar.{RequestHead, ReadsRequest, print_request}
use Rattle.httparse.specs.Spans.{IsWithin, span_bytes}
use Rattle.http_stream.specs.declared.fault.HttpFault.{HttpFault}
use Rattle.http_stream.specs.declared.head.HeadAt.{HeadAt}
use Rattle.http_stream.specs.declared.intake.Front.{Front as Look}
use Rattle.http_stream.specs.Lines.{Front, field_limit, front}
use Rattle.http_stream.specs.Heads.{body_length, closes, key_of}

-- the bytes that are left, how many items were given, and whether the last of them closed the connection
pub record Stream : Type 0 where
  pub rest : List ℕ
  pub given : ℕ
  pub closed : Bool

-- after so many items a connection is closed
abbrev pub item_limit : ℕ
item_limit = 10000

-- what the front of a stream shows: no head yet, one that is too large, one that is none, or a head
pub data Shown : Type 0 where
  Nothing : Shown
  TooLarge : Shown
  Unreadable : Shown
  Head : (head : RequestHead) → Shown

-- a head of at most 64 fields stands at the front of a text
pub record Begins (text : List ℕ) (head : RequestHead) : Type 0 where
  pub tail : List ℕ
  pub reads : ReadsRequest text head tail
  pub few : length head.fields ≤ field_limit

abbrev pub Shows : List ℕ → Shown → Type 0
Shows stream Shown.Nothing = front stream ≡ Front.Open
Shows stream Shown.TooLarge = front stream ≡ Front.Full
Shows stream Shown.Unreadable =
    (size : ℕ) × (front stream ≡ Front.Ended size) × ((head : RequestHead) → ¬ (Begins (take size stream) head))
Shows stream (Shown.Head head) = (size : ℕ) × (front stream ≡ Front.Ended size) × Begins (take size stream) head

-- what a request says: its method and its target, the key, the length of its body where a field says it, the body, and whether
-- its reply is the last
pub record Message : Type 0 where
  pub method : List ℕ
  pub target : List ℕ
  pub key : List ℕ
  pub length : Option ℕ
  pub body : List ℕ
  pub closes : Bool

-- an item closes the connection with a fault before its body is looked at, or it is a whole message
pub data StreamItem : Type 0 where
  Closing : (fault : HttpFault) → StreamItem
  Whole : (message : Message) → StreamItem

-- how many bytes of a head and its body there are
abbrev pub size_of : RequestHead → Option ℕ → ℕ
size_of head size = length (print_request head) + unwrap_or size 0

abbrev pub body_at : RequestHead → Option ℕ → List ℕ → List ℕ
body_at head size stream = take (unwrap_or size 0) (drop (length (print_request head)) stream)

abbrev pub message_of : RequestHead → Option ℕ → List ℕ → Message
message_of head size body = record {
  method = head.method;
  target = head.target;
  key = key_of head;
  length = size;
  body = body;
  closes = closes head;
}

-- the item and how many bytes it takes; one that closes takes none, since nothing is read behind it
abbrev pub Found : Type 0
Found = Option (StreamItem × ℕ)

abbrev pub whole_at : RequestHead → Option ℕ → List ℕ → Found
whole_at head size stream =
    if nat_le (size_of head size) (length stream)
    then Some (StreamItem.Whole (message_of head size (body_at head size stream)), size_of head size)
    else None

abbrev pub behind : RequestHead → Result (Option ℕ) HttpFault → List ℕ → Found
behind head (Err fault) stream = Some (StreamItem.Closing fault, 0)
behind head (Ok size) stream = whole_at head size stream

-- the item at the front of a stream, by what shows there
abbrev pub found_of : List ℕ → Shown → Found
found_of stream Shown.Nothing = None
found_of stream Shown.TooLarge = Some (StreamItem.Closing HttpFault.S431, 0)
found_of stream Shown.Unreadable = Some (StreamItem.Closing HttpFault.S400, 0)
found_of stream (Shown.Head head) = behind head (body_length head) stream

-- whether an item closes the connection, where these messages do
abbrev pub item_closes : (Message → Bool) → StreamItem → Bool
item_closes ends (StreamItem.Closing fault) = true
item_closes ends (StreamItem.Whole message) = ends message

-- the stream behind an item that takes so many bytes
abbrev pub after_item : Bool → ℕ → Stream → Stream
after_item ends used stream = record {
  rest = drop used stream.rest;
  given = stream.given + 1;
  closed = ends || stream.given + 1 == item_limit;
}

-- the next item of a stream that isn't closed, and the stream behind it, where these messages close the connection
pub record IsItem (ends : Message → Bool) (stream : Stream) (item : StreamItem) (after : Stream) : Type 0 where
  pub shown : Shown
  pub used : ℕ
  pub is_open : stream.closed ≡ false
  pub shows : Shows stream.rest shown
  pub found : found_of stream.rest shown ≡ Some (item, used)
  pub after_is : after ≡ after_item (item_closes ends item) used stream

-- the bytes show no further item yet, or none comes since the connection is closed
abbrev pub Undecided : Stream → Type 0
Undecided stream =
    (stream.closed ≡ true) ⊎ ((shown : Shown) × Shows stream.rest shown × (found_of stream.rest shown ≡ None))

-- a stream with more bytes
abbrev pub with_more : Stream → List ℕ → Stream
with_more stream more = record { rest = stream.rest ++ more; given = stream.given; closed = stream.closed }

-- these items come one after another, and then what is left
pub data Items (ends : Message → Bool) : Stream → List StreamItem → Stream → Type 0 where
  none : (stream : Stream) → Items ends stream [] stream
  next : (stream : Stream) (item : StreamItem) (between : Stream) (items : List StreamItem) (after : Stream) → IsItem ends stream item between
      → Items ends between items after → Items ends stream (item ∷ items) after

-- a stream comes in pieces: after each the items that it decides are given, up to where nothing more is decided
pub data Pieces (ends : Message → Bool) : Stream → List (List ℕ) → List StreamItem → Stream → Type 0 where
  end : (stream : Stream) → Pieces ends stream [] [] stream
  piece : (stream : Stream) (first : List ℕ) (items : List StreamItem) (between : Stream) (pieces : List (List ℕ)) (others : List StreamItem)
      (after : Stream) → Items ends (with_more stream first) items between → Undecided between → Pieces ends between pieces others after
      → Pieces ends stream (first ∷ pieces) (items ++ others) after

-- where the parts of a head stand that is at the front of a text
pub record IsHeadAt (text : List ℕ) (head : RequestHead) (at : HeadAt) : Type 0 where
  pub size : at.size ≡ length (print_request head)
  pub within : at.size ≤ length text
  pub method_within : IsWithin at.size at.method
  pub target_within : IsWithin at.size at.target
  pub key_within : IsWithin at.size at.key
  pub method : span_bytes text at.method ≡ head.method
  pub target : span_bytes text at.target ≡ head.target
  pub key : span_bytes text at.key ≡ key_of head
  pub length : body_length head ≡ Ok at.length
  pub closes : at.closes ≡ closes head

-- what a look at a stream says
abbrev pub LooksAs : Stream → Look → Type 0
LooksAs stream Look.Nothing = Undecided stream
LooksAs stream (Look.Closing fault) =
    (stream.closed ≡ false) × (shown : Shown) × Shows stream.rest shown
    × (found_of stream.rest shown ≡ Some (StreamItem.Closing fault, 0))
LooksAs stream (Look.Whole at) =
    (stream.closed ≡ false) × (head : RequestHead) × Shows stream.rest (Shown.Head head) × IsHeadAt stream.rest head at
    × (at.size + unwrap_or at.length 0 ≤ length stream.rest)
