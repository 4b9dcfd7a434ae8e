-- A run over a connection: the items of its stream in order, each answered behind what those before it left.
use Rattle.std.specs.Prelude.{List, [], false, ℕ, ◌++◌, ◌∷◌}
use Rattle.agent_http.specs.Calls.{ends}
use Rattle.http_stream.specs.Stream.{IsItem, Stream, StreamItem}
use Rattle.connection_service.specs.Answers.{Answers, At}

-- the stream of a connection whose bytes these are
abbrev pub stream_of : List ℕ → Stream
stream_of bytes = record { rest = bytes; given = 0; closed = false }

-- The first items of a stream were answered, with these texts in order: what is left of the stream, and what the answers left. None
-- comes behind the item that closes the connection, since a stream that is closed has no further item.
pub data Run (operator : List ℕ) (stream : Stream) (opened : At) : Stream → At → List (List ℕ) → Type 0 where
  none : Run operator stream opened stream opened []
  more : (between after : Stream) (mid now : At) (texts : List (List ℕ)) (item : StreamItem) (text : List ℕ)
      → Run operator stream opened between mid texts → IsItem ends between item after → Answers operator item after.closed mid text now
      → Run operator stream opened after now (texts ++ text ∷ [])
