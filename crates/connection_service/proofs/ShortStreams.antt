-- How much a stream holds while more of it is awaited, and how many items it gave.
use Rattle.std.proofs.Common.{◌≡◌, ◌≤◌, ◌<◌, inl, inr, ℕ, ◌+◌, min, Bool, true, false, true≢false, ◌||◌, leb, eqb, ltb, List, length, take, drop, Option, None, Some, Result, Ok, Err, refl, sym, ap, subst, ◌∙◌, arith, length-append}
use Rattle.std.specs.Option.{unwrap_or}
use Rattle.std.proofs.lemmas.List.{length-drop, length-take}
use Rattle.std.proofs.lemmas.Bool.Decides.{nat_tests}
use Rattle.http_stream.proofs.MoreLaws.{ended-within}
use Rattle.httparse.specs.Grammar.{RequestHead, print_request}
use Rattle.http_stream.specs.declared.fault.HttpFault.{HttpFault}
use Rattle.http_stream.specs.Heads.{Named, body_length, body_limit, is_length, length_name, length_of, fields_named, pairs_of, coding_name, said_length, within_limit}
use Rattle.std.specs.Str.Parse.{digits_value}
use Rattle.http_stream.specs.Lines.{Front, field_limit, front, head_limit, scan_of}
use Rattle.http_stream.specs.Stream.{IsItem, Message, Shown, Shows, Stream, StreamItem, Undecided, behind, body_at, found_of, item_closes, item_limit, message_of, size_of, whole_at}

open-short-by : (rest : List ℕ) (ended many few : Bool) → (scan_of (take head_limit rest)).ended ≡ ended
    → ltb (field_limit + 1) (scan_of (take head_limit rest)).filled ≡ many → ltb (length rest) head_limit ≡ few
    → front rest ≡ Front.Open → length rest < head_limit
open-short-by rest true true few a b c is = absurd (let e : Front.Full ≡ Front.Open = rw (a, b) at is in cc)
open-short-by rest true false few a b c is = absurd (let e : Front.Ended (scan_of (take head_limit rest)).size ≡ Front.Open = rw (a, b) at is in cc)
open-short-by rest false many true a b c is = grind (arith, nat_tests)
open-short-by rest false many false a b c is = absurd (let e : Front.Full ≡ Front.Open = rw (a, c) at is in cc)

-- no head's text has ended: fewer bytes than a head may have
open-short : (rest : List ℕ) → front rest ≡ Front.Open → length rest < head_limit
open-short rest is =
    open-short-by rest (scan_of (take head_limit rest)).ended (ltb (field_limit + 1) (scan_of (take head_limit rest)).filled)
    (ltb (length rest) head_limit) refl refl refl is

-- a head's text that ended is no longer than a head may be
ended-few : (rest : List ℕ) (size : ℕ) → front rest ≡ Front.Ended size → size ≤ head_limit
ended-few rest size is = omega (arith, ended-within rest size is)

abbrev good : Option ℕ → Result (Option ℕ) HttpFault
good said = Ok said

abbrev bad : HttpFault → Result (Option ℕ) HttpFault
bad fault = Err fault

-- the length that a head says is within the limit
within-few-by : (size : ℕ) (said : Option ℕ) (test : Bool) → leb size body_limit ≡ test → within_limit size ≡ Ok said → unwrap_or said 0 ≤ body_limit
within-few-by size said true e is =
    let same : good (Some size) ≡ good said = rw e at is in
    let some : Some size ≡ said = cc in
    let le : size ≤ body_limit = grind (arith, nat_tests) in
    subst (λ (o : Option ℕ). unwrap_or o 0 ≤ body_limit) some le
within-few-by size said false e is = absurd (let same : bad HttpFault.S413 ≡ good said = rw e at is in cc)

within-few : (size : ℕ) (said : Option ℕ) → within_limit size ≡ Ok said → unwrap_or said 0 ≤ body_limit
within-few size said is = within-few-by size said (leb size body_limit) refl is

length-few-by : (text : List ℕ) (said : Option ℕ) (test : Bool) → is_length text ≡ test → length_of text ≡ Ok said → unwrap_or said 0 ≤ body_limit
length-few-by text said true e is = within-few (digits_value 10 text) said (rw e at is)
length-few-by text said false e is = absurd (let same : bad HttpFault.S400 ≡ good said = rw e at is in cc)

said-few-by : (found : Named) (said : Option ℕ) (none one : Bool) → eqb found.count 0 ≡ none → eqb found.count 1 ≡ one → said_length found ≡ Ok said
    → unwrap_or said 0 ≤ body_limit
said-few-by found said true one a b is =
    let same : good None ≡ good said = rw a at is in
    let none : None ≡ said = cc in
    subst (λ (o : Option ℕ). unwrap_or o 0 ≤ body_limit) none (omega arith)
said-few-by found said false true a b is = length-few-by found.value said (is_length found.value) refl (rw (a, b) at is)
said-few-by found said false false a b is = absurd (let same : bad HttpFault.S400 ≡ good said = rw (a, b) at is in cc)

body-few-by : (head : RequestHead) (said : Option ℕ) (coded : Bool) → ltb 0 (fields_named coding_name (pairs_of head)).count ≡ coded → body_length head ≡ Ok said
    → unwrap_or said 0 ≤ body_limit
body-few-by head said true e is = absurd (let same : bad HttpFault.S501 ≡ good said = rw e at is in cc)
body-few-by head said false e is =
    let found = fields_named length_name (pairs_of head) in
    said-few-by found said (eqb found.count 0) (eqb found.count 1) refl refl (rw e at is)

body-few : (head : RequestHead) (said : Option ℕ) → body_length head ≡ Ok said → unwrap_or said 0 ≤ body_limit
body-few head said is = body-few-by head said (ltb 0 (fields_named coding_name (pairs_of head)).count) refl is

-- a head that stands at the front is no longer than a head may be
head-few : (rest : List ℕ) (head : RequestHead) → Shows rest (Shown.Head head) → length (print_request head) ≤ head_limit
head-few rest head shows =
    let size = ended-few rest shows.0 shows.1 in
    let parts : length (take shows.0 rest) ≡ length (print_request head) + length shows.2.tail =
    ap length shows.2.reads.1 ∙ length-append (print_request head) shows.2.tail in
    let taken : length (take shows.0 rest) ≡ min shows.0 (length rest) = length-take shows.0 rest in
    omega arith

whole-short-by : (head : RequestHead) (size : Option ℕ) (rest : List ℕ) (whole : Bool) → leb (size_of head size) (length rest) ≡ whole
    → whole_at head size rest ≡ None → length rest < size_of head size
whole-short-by head size rest true e is =
    absurd (let some : Some (StreamItem.Whole (message_of head size (body_at head size rest)), size_of head size) ≡ None = rw e at is in cc)
whole-short-by head size rest false e is = grind (arith, nat_tests)

behind-short : (rest : List ℕ) (head : RequestHead) (said : Result (Option ℕ) HttpFault) → Shows rest (Shown.Head head) → body_length head ≡ said
    → behind head said rest ≡ None → length rest < 1064960
behind-short rest head (Err fault) shows is none = absurd (cc)
behind-short rest head (Ok size) shows is none =
    let few = head-few rest head shows in
    let body = body-few head size is in
    let short = whole-short-by head size rest (leb (size_of head size) (length rest)) refl none in
    omega arith

none-short : (rest : List ℕ) (shown : Shown) → Shows rest shown → found_of rest shown ≡ None → length rest < 1064960
none-short rest Shown.Nothing shows none = let few = open-short rest shows in omega arith
none-short rest Shown.TooLarge shows none = absurd (cc)
none-short rest Shown.Unreadable shows none = absurd (cc)
none-short rest (Shown.Head head) shows none = behind-short rest head (body_length head) shows refl none

-- while more is awaited, fewer bytes are there than a head and a body may have
pub undecided-short : (stream : Stream) → stream.closed ≡ false → Undecided stream → length stream.rest < 1064960
undecided-short stream unclosed (inl closed) = absurd (true≢false (sym closed ∙ unclosed))
undecided-short stream unclosed (inr none) = none-short stream.rest none.0 none.1 none.2

few-by : (ends : Bool) (given : ℕ) (last : Bool) → eqb (given + 1) item_limit ≡ last → given < item_limit → (ends || last) ≡ false → given + 1 < item_limit
few-by true given last e few is = absurd (true≢false is)
few-by false given true e few is = absurd (true≢false is)
few-by false given false e few is = grind (arith, nat_tests)

-- a connection that is open gave fewer items than it may
pub item-few : (ends : Message → Bool) (stream : Stream) (item : StreamItem) (after : Stream) → IsItem ends stream item after
    → stream.given < item_limit → after.closed ≡ false → after.given < item_limit
item-few ends stream item after is few unclosed =
    subst (λ (n : ℕ). n < item_limit) (sym (ap (λ (s : Stream). s.given) is.after_is))
    (few-by (item_closes ends item) stream.given (eqb (stream.given + 1) item_limit) refl few (sym (ap (λ (s : Stream). s.closed) is.after_is) ∙ unclosed))

pub item-given : (ends : Message → Bool) (stream : Stream) (item : StreamItem) (after : Stream) → IsItem ends stream item after → after.given ≡ stream.given + 1
item-given ends stream item after is = ap (λ (s : Stream). s.given) is.after_is

pub item-shorter : (ends : Message → Bool) (stream : Stream) (item : StreamItem) (after : Stream) → IsItem ends stream item after
    → length after.rest ≤ length stream.rest
item-shorter ends stream item after is =
    let rest : length after.rest ≡ length (drop is.used stream.rest) = ap (λ (s : Stream). length s.rest) is.after_is in
    let dropped = length-drop is.used stream.rest in
    omega arith
