-- How a connection is served: what was read of it, what was written on it, and how it ends.
use Rattle.std.specs.Prelude.{Bool, IfSome, List, Option, Result, Err, Ok, [], false, length, option_map, take, true, ℕ, ◌*◌, ◌+◌, ◌++◌, ◌-◌, ◌<◌, ◌∷◌, ◌≡◌}
use Rattle.std.specs.List.{concat}
use Rattle.agent_edge.specs.Links.{Links, after_shut, after_talk, after_write}
use Rattle.agent_edge.specs.Counts.{Rose}
use Rattle.agent_edge.specs.declared.doors.LinkFault.{LinkFault}
use Rattle.agent_http.specs.declared.calls.CallAsk.{CallAsk}
use Rattle.agent_http.specs.Bytes.{fault_bytes}
use Rattle.http_stream.specs.Stream.{Stream, Undecided, item_limit}
use Rattle.http_stream.specs.declared.fault.HttpFault.{HttpFault}
use Rattle.connection_service.specs.Answers.{AnswersBy, At, clock_at, kept_at}
use Rattle.connection_service.specs.Runs.{Run, stream_of}
use Rattle.connection_service.specs.declared.serving.Going.{Going}
use Rattle.connection_service.specs.declared.serving.Served.{Served}
use Rattle.register_machine.specs.journal.Journals.{Journal}

-- what the answers of a connection depend on, by its parts
abbrev pub at_of : Journal → ℕ → ℕ → Option (List ℕ) → At
at_of journal faults last coming = record { kept = kept_at journal faults; clock = clock_at last coming }

-- the text in the place of the next item where memory is wanting for its bytes; the connection closes behind it
abbrev pub memory_text : List ℕ
memory_text = fault_bytes HttpFault.S507 true

-- So far these bytes were read of the connection, and the texts of a run over them were written on it whole.
pub record IsServing (operator : List ℕ) (opened : At) (before now : Option Links) (left : Stream) (at : At) : Type 0 where
  pub came : List ℕ
  pub texts : List (List ℕ)
  pub run : Run operator (stream_of came) opened left at texts
  pub read : IfSome before (λ links. came ≡ take (length came) links.unread)
  pub links : now ≡ option_map (after_talk (length came) (concat texts)) before

-- How it ends, and what was written of the texts of the run.
-- Ended: the last item closes it; or its input was read to the end, and nothing further is decided; or memory was wanting for its bytes.
-- LinkFailed: a read failed; or a write failed, and of the last text a front was written, and those before it whole.
pub data Ends (before : Option Links) (came : List ℕ) (left : Stream) (texts : List (List ℕ)) (said : List ℕ) : Served → Type 0 where
  closed : left.closed ≡ true → said ≡ concat texts → Ends before came left texts said Served.Ended
  at_end : left.closed ≡ false → Undecided left → IfSome before (λ links. links.unread ≡ came) → said ≡ concat texts
      → Ends before came left texts said Served.Ended
  no_memory : left.closed ≡ false → said ≡ concat texts ++ memory_text → Ends before came left texts said Served.Ended
  read_failed : left.closed ≡ false → Undecided left → said ≡ concat texts → Ends before came left texts said Served.LinkFailed
  cut : (sent : List (List ℕ)) (last : List ℕ) (count : ℕ) → texts ≡ sent ++ last ∷ [] → count < length last
      → said ≡ concat sent ++ take count last → Ends before came left texts said Served.LinkFailed
  cut_for_memory : (count : ℕ) → left.closed ≡ false → count < length memory_text → said ≡ concat texts ++ take count memory_text
      → Ends before came left texts said Served.LinkFailed

-- The connection was served: these bytes were read of it, the run over them gave these texts, and of them was written what the end says.
pub record IsServed (operator : List ℕ) (opened : At) (before : Option Links) (served : Served) (now : Option Links) (at : At) : Type 0 where
  pub came : List ℕ
  pub texts : List (List ℕ)
  pub left : Stream
  pub run : Run operator (stream_of came) opened left at texts
  pub read : IfSome before (λ links. came ≡ take (length came) links.unread)
  pub said : List ℕ
  pub ends : Ends before came left texts said served
  pub links : now ≡ option_map (after_talk (length came) said) before

-- and then it was shut; what is told of the other connections is as it was
pub record IsServedAndShut (operator : List ℕ) (opened : At) (before : Option Links) (served : Served) (now : Option Links) (at : At) : Type 0 where
  pub until_shut : Option Links
  pub is_served : IsServed operator opened before served until_shut at
  pub shut : now ≡ option_map after_shut until_shut

-- The links' count rose exactly where the link failed.
abbrev pub CountsLink : Served → ℕ → ℕ → Type 0
CountsLink Served.Ended before now = now ≡ before
CountsLink Served.LinkFailed before now = Rose before now

-- a step goes on, or the connection is over
abbrev pub GoesAs : List ℕ → At → Option Links → Option Links → Stream → At → Going → Type 0
GoesAs operator opened before now left at Going.On = IsServing operator opened before now left at
GoesAs operator opened before now left at (Going.Over served) = IsServed operator opened before served now at

abbrev pub CountsGoing : Going → ℕ → ℕ → Type 0
CountsGoing Going.On before now = now ≡ before
CountsGoing (Going.Over served) before now = CountsLink served before now

-- a text was written whole, or a front of it
abbrev pub IsWritten : List ℕ → Option Links → Option Links → Result Unit LinkFault → Type 0
IsWritten text before now (Ok done) = now ≡ option_map (after_write text) before
IsWritten text before now (Err fault) =
    (count : ℕ) × (count < length text) × (now ≡ option_map (after_write (take count text)) before)

-- behind a text that was written the connection goes on, or it ends
abbrev pub going_on : Result Unit LinkFault → Going
going_on (Ok done) = Going.On
going_on (Err fault) = Going.Over Served.LinkFailed

abbrev pub going_over : Result Unit LinkFault → Going
going_over (Ok done) = Going.Over Served.Ended
going_over (Err fault) = Going.Over Served.LinkFailed

-- A call was answered with a text, and the text was written.
pub record IsReplied (operator key : List ℕ) (last : Bool) (ask : CallAsk) (old new : At) (before now : Option Links) (going : Going) : Type 0 where
  pub text : List ℕ
  pub answers : AnswersBy operator key last ask old text new
  pub written : Result Unit LinkFault
  pub writes : IsWritten text before now written
  pub goes : going ≡ going_on written

-- a text was written behind which the connection goes on
abbrev pub GoesOnBehind : List ℕ → Option Links → Option Links → Going → Type 0
GoesOnBehind text before now going = (written : Result Unit LinkFault) × IsWritten text before now written × (going ≡ going_on written)

-- a text was written behind which it is over
abbrev pub IsOverBehind : List ℕ → Option Links → Option Links → Going → Type 0
IsOverBehind text before now going = (written : Result Unit LinkFault) × IsWritten text before now written × (going ≡ going_over written)

-- A stream that a connection awaits more of has fewer bytes than a head and a body and a piece, and gave fewer items than it may.
pub record IsWithin (stream : Stream) : Type 0 where
  pub short : length stream.rest < 1069056
  pub few : stream.closed ≡ false → stream.given < item_limit

-- how far a stream is from its last byte
abbrev pub ahead : Stream → ℕ
ahead stream = (10000 - stream.given) * 1069056 + (1069056 - length stream.rest)

abbrev pub FewerAhead : Going → Stream → Stream → Type 0
FewerAhead Going.On old new = IsWithin new × (ahead new < ahead old)
FewerAhead (Going.Over served) old new = Unit {0}
