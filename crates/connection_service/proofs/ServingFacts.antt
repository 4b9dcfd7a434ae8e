-- A connection is served item by item and piece by piece.
use Rattle.std.proofs.Common.{Err, IfSome, List, None, Ok, Option, Result, Some, [], ap, append-nil, arith, drop, false, length, length-append, option_map, refl, subst, sym, take, true, ℕ, ◌*◌, ◌+◌, ◌++◌, ◌-◌, ◌∙◌, ◌∷◌, ◌<◌, ◌≡◌, ◌≤◌}
use Rattle.std.specs.Prelude.{Bool}
use Rattle.std.specs.List.{concat}
use Rattle.std.proofs.lemmas.List.{length-take, take-append-drop}
use Rattle.std.proofs.lemmas.List.Folds.{concat-append}
use Rattle.std.proofs.Math.Seq.{take-add}
use Rattle.agent_edge.proofs.TalkLemmas.{talk-nothing, talk-read, talk-write}
use Rattle.agent_edge.specs.Links.{Links, after_read, after_talk, after_write}
use Rattle.agent_edge.specs.declared.doors.LinkFault.{LinkFault}
use Rattle.agent_http.specs.Calls.{ends, item_answer, item_key}
use Rattle.agent_http.specs.declared.calls.CallAsk.{CallAsk}
use Rattle.agent_http.specs.Bytes.{fault_bytes}
use Rattle.http_stream.specs.Stream.{IsItem, Message, Stream, StreamItem, Undecided, with_more}
use Rattle.http_stream.specs.declared.fault.HttpFault.{HttpFault}
use Rattle.http_stream.proofs.ItemLaws.{item_more}
use Rattle.connection_service.specs.Answers.{Answers, AnswersBy, At}
use Rattle.connection_service.specs.Runs.{Run, stream_of}
use Rattle.connection_service.specs.Serving.{Ends, FewerAhead, GoesAs, GoesOnBehind, IsOverBehind, IsReplied, IsServed, IsServing, IsWithin, IsWritten, ahead, going_on, going_over, memory_text}
use Rattle.connection_service.specs.declared.serving.Going.{Going}
use Rattle.connection_service.specs.declared.serving.Served.{Served}
use Rattle.connection_service.proofs.ShortStreams.{item-few, item-given, item-shorter, undecided-short}

-- what was decided of a stream is decided of it with more bytes
run-more : (operator : List ℕ) (stream : Stream) (opened : At) (left : Stream) (at : At) (texts : List (List ℕ)) (more : List ℕ)
    → Run operator stream opened left at texts → Run operator (with_more stream more) opened (with_more left more) at texts
run-more operator stream opened left at texts more Run.none = Run.none
run-more operator stream opened left at texts more (Run.more between after mid now before item text run is answers) =
    Run.more (with_more between more) (with_more after more) mid now before item text
    (run-more operator stream opened between mid before more run) (item_more ends between item after more is) answers

-- the texts of a run with one text more
texts-more : (texts : List (List ℕ)) (text : List ℕ) → concat (texts ++ text ∷ []) ≡ concat texts ++ text
texts-more texts text = concat-append texts (text ∷ []) ∙ ap (λ last. concat texts ++ last) (append-nil text)

read-none : (before : Option Links) → IfSome before (λ links. [] ≡ take 0 links.unread)
read-none None = tt
read-none (Some links) = refl

read-more : (before mid : Option Links) (came said piece : List ℕ) → IfSome before (λ links. came ≡ take (length came) links.unread)
    → mid ≡ option_map (after_talk (length came) said) before → IfSome mid (λ links. piece ≡ take (length piece) links.unread)
    → IfSome before (λ links. came ++ piece ≡ take (length (came ++ piece)) links.unread)
read-more None mid came said piece first is next = tt
read-more (Some links) mid came said piece first is next =
    let there : piece ≡ take (length piece) (drop (length came) links.unread) =
    subst (λ (known : Option Links). IfSome known (λ links. piece ≡ take (length piece) links.unread)) is next in
    ap (λ front. front ++ piece) first
    ∙ ap (λ back. take (length came) links.unread ++ back) there
    ∙ sym (take-add (length came) (length piece) links.unread)
    ∙ ap (λ n. take n links.unread) (sym (length-append came piece))

-- where nothing is left to read, all came
read-all : (before mid : Option Links) (came said : List ℕ) → IfSome before (λ links. came ≡ take (length came) links.unread)
    → mid ≡ option_map (after_talk (length came) said) before → IfSome mid (λ links. links.unread ≡ [])
    → IfSome before (λ links. links.unread ≡ came)
read-all None mid came said first is end = tt
read-all (Some links) mid came said first is end =
    let none : drop (length came) links.unread ≡ [] =
    subst (λ (known : Option Links). IfSome known (λ links. links.unread ≡ [])) is end in
    sym (take-append-drop (length came) links.unread)
    ∙ ap (λ back. take (length came) links.unread ++ back) none
    ∙ append-nil (take (length came) links.unread)
    ∙ sym first

-- before the first item
pub serving-none : (operator : List ℕ) (opened : At) (before : Option Links) → IsServing operator opened before before (stream_of []) opened
serving-none operator opened before =
    record { came = []; texts = []; run = Run.none; read = read-none before; links = talk-nothing before }

-- the piece that was read next
pub serving-piece : (operator : List ℕ) (opened : At) (before mid now : Option Links) (left : Stream) (at : At) (piece : List ℕ)
    → IsServing operator opened before mid left at → IfSome mid (λ links. piece ≡ take (length piece) links.unread)
    → now ≡ option_map (after_read (length piece)) mid → IsServing operator opened before now (with_more left piece) at
serving-piece operator opened before mid now left at piece serving is next = record {
  came = serving.came ++ piece;
  texts = serving.texts;
  run = run-more operator (stream_of serving.came) opened left at serving.texts piece serving.run;
  read = read-more before mid serving.came (concat serving.texts) piece serving.read serving.links is;
  links = talk-read before mid now (length serving.came) (length piece) (concat serving.texts) serving.links next
      ∙ ap (λ n. option_map (after_talk n (concat serving.texts)) before) (sym (length-append serving.came piece));
}

-- the text of the next item was written whole
pub serving-item : (operator : List ℕ) (opened : At) (before mid now : Option Links) (left after : Stream) (at new : At) (item : StreamItem) (text : List ℕ)
    → IsServing operator opened before mid left at → IsItem ends left item after → Answers operator item after.closed at text new
    → now ≡ option_map (after_write text) mid → IsServing operator opened before now after new
serving-item operator opened before mid now left after at new item text serving is answers next = record {
  came = serving.came;
  texts = serving.texts ++ text ∷ [];
  run = Run.more left after at new serving.texts item text serving.run is answers;
  read = serving.read;
  links = talk-write before mid now (length serving.came) (concat serving.texts) text serving.links next
      ∙ ap (λ said. option_map (after_talk (length serving.came) said) before) (sym (texts-more serving.texts text));
}

-- or a front of it
pub served-cut : (operator : List ℕ) (opened : At) (before mid now : Option Links) (left after : Stream) (at new : At) (item : StreamItem) (text : List ℕ) (count : ℕ)
    → IsServing operator opened before mid left at → IsItem ends left item after → Answers operator item after.closed at text new
    → count < length text → now ≡ option_map (after_write (take count text)) mid → IsServed operator opened before Served.LinkFailed now new
served-cut operator opened before mid now left after at new item text count serving is answers less next = record {
  came = serving.came;
  texts = serving.texts ++ text ∷ [];
  left = after;
  run = Run.more left after at new serving.texts item text serving.run is answers;
  read = serving.read;
  said = concat serving.texts ++ take count text;
  ends = Ends.cut serving.texts text count refl less refl;
  links = talk-write before mid now (length serving.came) (concat serving.texts) (take count text) serving.links next;
}

-- behind its text the connection goes on, or it ends
pub goes-item : (operator : List ℕ) (opened : At) (before mid now : Option Links) (left after : Stream) (at new : At) (item : StreamItem) (text : List ℕ) (written : Result Unit LinkFault)
    → IsServing operator opened before mid left at → IsItem ends left item after → Answers operator item after.closed at text new
    → IsWritten text mid now written → GoesAs operator opened before now after new (going_on written)
goes-item operator opened before mid now left after at new item text (Ok done) serving is answers next =
    serving-item operator opened before mid now left after at new item text serving is answers next
goes-item operator opened before mid now left after at new item text (Err fault) serving is answers (count, less, next) =
    served-cut operator opened before mid now left after at new item text count serving is answers less next

pub goes-call : (operator : List ℕ) (opened : At) (before mid now : Option Links) (left after : Stream) (at new : At) (item : StreamItem) (key : List ℕ) (last : Bool) (ask : CallAsk) (going : Going)
    → IsServing operator opened before mid left at → IsItem ends left item after → item_answer item ≡ ask → key ≡ item_key item → last ≡ after.closed
    → IsReplied operator key last ask at new mid now going → GoesAs operator opened before now after new going
goes-call operator opened before mid now left after at new item key last ask going serving is asks keys lasts replied =
    let by_key : AnswersBy operator (item_key item) last ask at replied.text new =
    subst (λ (k : List ℕ). AnswersBy operator k last ask at replied.text new) keys replied.answers in
    let by_last : AnswersBy operator (item_key item) after.closed ask at replied.text new =
    subst (λ (b : Bool). AnswersBy operator (item_key item) b ask at replied.text new) lasts by_key in
    let answers : Answers operator item after.closed at replied.text new =
    subst (λ (a : CallAsk). AnswersBy operator (item_key item) after.closed a at replied.text new) (sym asks) by_last in
    subst (λ (g : Going). GoesAs operator opened before now after new g) (sym replied.goes)
    (goes-item operator opened before mid now left after at new item replied.text replied.written serving is answers replied.writes)

pub goes-fault : (operator : List ℕ) (opened : At) (before mid now : Option Links) (left after : Stream) (at : At) (item : StreamItem) (fault : HttpFault) (last : Bool) (going : Going)
    → IsServing operator opened before mid left at → IsItem ends left item after → item_answer item ≡ CallAsk.Fault fault → last ≡ after.closed
    → GoesOnBehind (fault_bytes fault last) mid now going → GoesAs operator opened before now after at going
goes-fault operator opened before mid now left after at item fault last going serving is asks lasts (written, writes, goes) =
    let by_last : AnswersBy operator (item_key item) after.closed (CallAsk.Fault fault) at (fault_bytes fault last) at =
    (ap (fault_bytes fault) lasts, refl) in
    let answers : Answers operator item after.closed at (fault_bytes fault last) at =
    subst (λ (a : CallAsk). AnswersBy operator (item_key item) after.closed a at (fault_bytes fault last) at) (sym asks) by_last in
    subst (λ (g : Going). GoesAs operator opened before now after at g) (sym goes)
    (goes-item operator opened before mid now left after at at item (fault_bytes fault last) written serving is answers writes)

-- the last item closed it
pub over-closed : (operator : List ℕ) (opened : At) (before now : Option Links) (left : Stream) (at : At)
    → IsServing operator opened before now left at → left.closed ≡ true → IsServed operator opened before Served.Ended now at
over-closed operator opened before now left at serving closed = record {
  came = serving.came;
  texts = serving.texts;
  left = left;
  run = serving.run;
  read = serving.read;
  said = concat serving.texts;
  ends = Ends.closed closed refl;
  links = serving.links;
}

-- a read failed
pub over-unread : (operator : List ℕ) (opened : At) (before now : Option Links) (left : Stream) (at : At)
    → IsServing operator opened before now left at → left.closed ≡ false → Undecided left → IsServed operator opened before Served.LinkFailed now at
over-unread operator opened before now left at serving unclosed undecided = record {
  came = serving.came;
  texts = serving.texts;
  left = left;
  run = serving.run;
  read = serving.read;
  said = concat serving.texts;
  ends = Ends.read_failed unclosed undecided refl;
  links = serving.links;
}

-- its input is at its end
pub over-at-end : (operator : List ℕ) (opened : At) (before now : Option Links) (left : Stream) (at : At) (piece : List ℕ)
    → IsServing operator opened before now (with_more left piece) at → left.closed ≡ false → Undecided left → piece ≡ []
    → IfSome now (λ links. links.unread ≡ []) → IsServed operator opened before Served.Ended now at
over-at-end operator opened before now left at piece serving unclosed undecided none end =
    let same : with_more left piece ≡ left =
    ap (λ (bytes : List ℕ). with_more left bytes) none
    ∙ ap (λ (rest : List ℕ). record { rest = rest; given = left.given; closed = left.closed }) (append-nil left.rest) in
    record {
      came = serving.came;
      texts = serving.texts;
      left = with_more left piece;
      run = serving.run;
      read = serving.read;
      said = concat serving.texts;
      ends = Ends.at_end unclosed (subst Undecided (sym same) undecided)
          (read-all before now serving.came (concat serving.texts) serving.read serving.links end) refl;
      links = serving.links;
    }

-- memory was wanting for its bytes
pub over-memory : (operator : List ℕ) (opened : At) (before mid now : Option Links) (left behind : Stream) (at : At) (written : Result Unit LinkFault)
    → IsServing operator opened before mid left at → left.closed ≡ false → IsWritten memory_text mid now written
    → GoesAs operator opened before now behind at (going_over written)
over-memory operator opened before mid now left behind at (Ok done) serving unclosed next = record {
  came = serving.came;
  texts = serving.texts;
  left = left;
  run = serving.run;
  read = serving.read;
  said = concat serving.texts ++ memory_text;
  ends = Ends.no_memory unclosed refl;
  links = talk-write before mid now (length serving.came) (concat serving.texts) memory_text serving.links next;
}
over-memory operator opened before mid now left behind at (Err fault) serving unclosed (count, less, next) = record {
  came = serving.came;
  texts = serving.texts;
  left = left;
  run = serving.run;
  read = serving.read;
  said = concat serving.texts ++ take count memory_text;
  ends = Ends.cut_for_memory count unclosed less refl;
  links = talk-write before mid now (length serving.came) (concat serving.texts) (take count memory_text) serving.links next;
}

pub goes-over : (operator : List ℕ) (opened : At) (before mid now : Option Links) (left behind : Stream) (at : At) (going : Going)
    → IsServing operator opened before mid left at → left.closed ≡ false → IsOverBehind memory_text mid now going
    → GoesAs operator opened before now behind at going
goes-over operator opened before mid now left behind at going serving unclosed (written, writes, goes) =
    subst (λ (g : Going). GoesAs operator opened before now behind at g) (sym goes)
    (over-memory operator opened before mid now left behind at written serving unclosed writes)

-- Each step that goes on brings the stream nearer to its last byte.

fewer-item : (given old new : ℕ) → given < 10000 → new ≤ old → old < 1069056
    → (10000 - (given + 1)) * 1069056 + (1069056 - new) < (10000 - given) * 1069056 + (1069056 - old)
fewer-item given old new few shorter short = omega arith

fewer-more : (ends_of : Message → Bool) (stream : Stream) (item : StreamItem) (after : Stream) → IsItem ends_of stream item after → IsWithin stream → stream.closed ≡ false
    → IsWithin after × (ahead after < ahead stream)
fewer-more ends_of stream item after is within unclosed =
    let few = within.few unclosed in
    let shorter = item-shorter ends_of stream item after is in
    let short = within.short in (
      record { short = omega arith; few = item-few ends_of stream item after is few },
      subst (λ (n : ℕ). (10000 - n) * 1069056 + (1069056 - length after.rest) < ahead stream) (sym (item-given ends_of stream item after is))
          (fewer-item stream.given (length stream.rest) (length after.rest) few shorter short),
    )

-- behind an item
pub fewer-behind : (stream : Stream) (item : StreamItem) (after : Stream) (written : Result Unit LinkFault) → IsItem ends stream item after → IsWithin stream → stream.closed ≡ false
    → FewerAhead (going_on written) stream after
fewer-behind stream item after (Ok done) is within unclosed = fewer-more ends stream item after is within unclosed
fewer-behind stream item after (Err fault) is within unclosed = tt

-- with a piece more
pub fewer-piece : (stream : Stream) (piece : List ℕ) → IsWithin stream → stream.closed ≡ false → Undecided stream → 0 < length piece → length piece ≤ 4096
    → IsWithin (with_more stream piece) × (ahead (with_more stream piece) < ahead stream)
fewer-piece stream piece within unclosed undecided some few =
    let short = undecided-short stream unclosed undecided in
    let size : length (stream.rest ++ piece) ≡ length stream.rest + length piece = length-append stream.rest piece in
    (record { short = omega arith; few = within.few }, omega arith)

-- where the connection is over, nothing more is asked
pub fewer-over : (stream after : Stream) (written : Result Unit LinkFault) → FewerAhead (going_over written) stream after
fewer-over stream after (Ok done) = tt
fewer-over stream after (Err fault) = tt

-- ---- what a read gives

-- a piece without bytes
pub none-of : (piece : List ℕ) → length piece ≡ 0 → piece ≡ []
none-of [] e = refl
none-of (byte ∷ piece) e = absurd (omega arith)

-- as many bytes as were read stand at the front of the buffer
piece-size : (buffer : List ℕ) (count : ℕ) → count ≤ length buffer → length (take count buffer) ≡ count
piece-size buffer count within = let size = length-take count buffer in omega arith

pub serving-read : (operator : List ℕ) (opened : At) (before mid now : Option Links) (left : Stream) (at : At) (buffer : List ℕ) (count : ℕ)
    → IsServing operator opened before mid left at → count ≤ length buffer → IfSome mid (λ links. take count buffer ≡ take count links.unread)
    → now ≡ option_map (after_read count) mid → IsServing operator opened before now (with_more left (take count buffer)) at
serving-read operator opened before mid now left at buffer count serving within is next =
    let size = piece-size buffer count within in
    serving-piece operator opened before mid now left at (take count buffer) serving
    (subst (λ (n : ℕ). IfSome mid (λ links. take count buffer ≡ take n links.unread)) (sym size) is)
    (subst (λ (n : ℕ). now ≡ option_map (after_read n) mid) (sym size) next)

-- a read that gives nothing is at the end
pub told-end : (mid now : Option Links) (buffer : List ℕ) (count : ℕ) → count ≤ length buffer
    → (count ≡ 0 → 0 < length buffer → IfSome mid (λ links. links.unread ≡ [])) → 0 < length buffer
    → now ≡ option_map (after_read count) mid → length (take count buffer) ≡ 0 → IfSome now (λ links. links.unread ≡ [])
told-end None now buffer count within end some next none = subst (λ (known : Option Links). IfSome known (λ links. links.unread ≡ [])) (sym next) tt
told-end (Some links) now buffer count within end some next none =
    let size = piece-size buffer count within in
    let zero_read : count ≡ 0 = omega arith in
    let left : links.unread ≡ [] = end zero_read some in
    let at_end : drop count links.unread ≡ [] = ap (λ n. drop n links.unread) zero_read ∙ left in
    subst (λ (known : Option Links). IfSome known (λ links. links.unread ≡ [])) (sym next) at_end

pub told-same : (operator : List ℕ) (opened : At) (before mid now : Option Links) (left : Stream) (at : At)
    → IsServing operator opened before mid left at → now ≡ mid → IsServing operator opened before now left at
told-same operator opened before mid now left at serving same =
    subst (λ (known : Option Links). IsServing operator opened before known left at) (sym same) serving

-- ---- what is decided of a stream where an item was answered

pub fewer-call : (operator key : List ℕ) (last : Bool) (ask : CallAsk) (old new : At) (before now : Option Links) (going : Going) (stream : Stream) (item : StreamItem) (after : Stream)
    → IsReplied operator key last ask old new before now going → IsItem ends stream item after → IsWithin stream → stream.closed ≡ false → FewerAhead going stream after
fewer-call operator key last ask old new before now going stream item after replied is within unclosed =
    subst (λ (g : Going). FewerAhead g stream after) (sym replied.goes) (fewer-behind stream item after replied.written is within unclosed)

pub fewer-fault : (text : List ℕ) (before now : Option Links) (going : Going) (stream : Stream) (item : StreamItem) (after : Stream)
    → GoesOnBehind text before now going → IsItem ends stream item after → IsWithin stream → stream.closed ≡ false → FewerAhead going stream after
fewer-fault text before now going stream item after (written, writes, goes) is within unclosed =
    subst (λ (g : Going). FewerAhead g stream after) (sym goes) (fewer-behind stream item after written is within unclosed)

-- before the first byte
pub within-none : IsWithin (stream_of [])
within-none = record { short = omega arith; few = λ unclosed. omega arith }
