-- The next item of a stream is determined, and what is decided stays decided when more bytes come.
use Rattle.std.proofs.Common.{◌≡◌, ◌≤◌, inl, inr, ℕ, ◌+◌, Bool, true, false, leb, List, [], ◌∷◌, ◌++◌, length, take, drop, Option, None, Some, Result, Ok, Err, refl, sym, ap, subst, ◌∙◌, arith, length-append, append_assoc, append-nil}
use Rattle.std.specs.Option.{unwrap_or}
use Rattle.std.specs.List.{flat_map}
use Rattle.std.proofs.lemmas.List.{drop-append-le, take-append-le, length-drop}
use Rattle.std.proofs.lemmas.Bool.Decides.{nat_tests}
use Rattle.httparse.specs.Grammar.{RequestHead, print_request}
use Rattle.httparse.proofs.GrammarLemmas.{request_unique}
use Rattle.http_stream.specs.declared.fault.HttpFault.{HttpFault}
use Rattle.http_stream.specs.Heads.{body_length}
use Rattle.http_stream.specs.Lines.{Front, front}
use Rattle.http_stream.specs.Stream.{Begins, Found, IsItem, Items, Message, Pieces, Shown, Shows, Stream, StreamItem, Undecided, after_item, behind, body_at, found_of, item_closes, message_of, size_of, whole_at, with_more}
use Rattle.http_stream.proofs.MoreLaws.{shows-more}

one-size : (stream : List ℕ) (a b : ℕ) → front stream ≡ Front.Ended a → front stream ≡ Front.Ended b → a ≡ b
one-size stream a b x y = let e : Front.Ended a ≡ Front.Ended b = sym x ∙ y in cc

one-head : (stream : List ℕ) (a b : ℕ) (h k : RequestHead) → front stream ≡ Front.Ended a → front stream ≡ Front.Ended b
    → Begins (take a stream) h → Begins (take b stream) k → h ≡ k
one-head stream a b h k x y begins others =
    let P : ℕ → Type 0 = λ n. Begins (take n stream) k in
    let also : Begins (take a stream) k = subst P (sym (one-size stream a b x y)) others in
    (request_unique (take a stream) h k begins.tail also.tail begins.reads also.reads).0

none-and-head : (stream : List ℕ) (a b : ℕ) (h : RequestHead) → front stream ≡ Front.Ended a → front stream ≡ Front.Ended b
    → ((head : RequestHead) → ¬ (Begins (take a stream) head)) → Begins (take b stream) h → ⊥
none-and-head stream a b h x y none begins =
    let P : ℕ → Type 0 = λ n. Begins (take n stream) h in
    none h (subst P (sym (one-size stream a b x y)) begins)

apart : (stream : List ℕ) (a b : Front) → ¬ (a ≡ b) → front stream ≡ a → front stream ≡ b → ⊥
apart stream a b differ x y = differ (sym x ∙ y)

-- the front of a stream shows one thing
pub one-shown : (stream : List ℕ) (a b : Shown) → Shows stream a → Shows stream b → a ≡ b
one-shown stream Shown.Nothing Shown.Nothing x y = refl
one-shown stream Shown.Nothing Shown.TooLarge x y = absurd (apart stream Front.Open Front.Full (λ e. cc) x y)
one-shown stream Shown.Nothing Shown.Unreadable x y = absurd (apart stream Front.Open (Front.Ended y.0) (λ e. cc) x y.1)
one-shown stream Shown.Nothing (Shown.Head k) x y = absurd (apart stream Front.Open (Front.Ended y.0) (λ e. cc) x y.1)
one-shown stream Shown.TooLarge Shown.Nothing x y = absurd (apart stream Front.Full Front.Open (λ e. cc) x y)
one-shown stream Shown.TooLarge Shown.TooLarge x y = refl
one-shown stream Shown.TooLarge Shown.Unreadable x y = absurd (apart stream Front.Full (Front.Ended y.0) (λ e. cc) x y.1)
one-shown stream Shown.TooLarge (Shown.Head k) x y = absurd (apart stream Front.Full (Front.Ended y.0) (λ e. cc) x y.1)
one-shown stream Shown.Unreadable Shown.Nothing x y = absurd (apart stream (Front.Ended x.0) Front.Open (λ e. cc) x.1 y)
one-shown stream Shown.Unreadable Shown.TooLarge x y = absurd (apart stream (Front.Ended x.0) Front.Full (λ e. cc) x.1 y)
one-shown stream Shown.Unreadable Shown.Unreadable x y = refl
one-shown stream Shown.Unreadable (Shown.Head k) x y = absurd (none-and-head stream x.0 y.0 k x.1 y.1 x.2 y.2)
one-shown stream (Shown.Head h) Shown.Nothing x y = absurd (apart stream (Front.Ended x.0) Front.Open (λ e. cc) x.1 y)
one-shown stream (Shown.Head h) Shown.TooLarge x y = absurd (apart stream (Front.Ended x.0) Front.Full (λ e. cc) x.1 y)
one-shown stream (Shown.Head h) Shown.Unreadable x y = absurd (none-and-head stream y.0 x.0 h y.1 x.1 y.2 x.2)
one-shown stream (Shown.Head h) (Shown.Head k) x y = ap Shown.Head (one-head stream x.0 y.0 h k x.1 y.1 x.2 y.2)

-- the parts of what was found
abbrev some_item : StreamItem → ℕ → Found
some_item item used = Some (item, used)

same-item : (a b : StreamItem) (m n : ℕ) → some_item a m ≡ some_item b n → a ≡ b
same-item a b m n e = ap (λ (f : Found). (unwrap_or f (a, 0)).0) e

same-used : (a b : StreamItem) (m n : ℕ) → some_item a m ≡ some_item b n → m ≡ n
same-used a b m n e = ap (λ (f : Found). (unwrap_or f (a, 0)).1) e

one-found : (stream : List ℕ) (a b : Shown) → Shows stream a → Shows stream b → found_of stream a ≡ found_of stream b
one-found stream a b x y = ap (found_of stream) (one-shown stream a b x y)

pub one-item : (ends : Message → Bool) (stream : Stream) (item other : StreamItem) (after behind_other : Stream)
    → IsItem ends stream item after → IsItem ends stream other behind_other → (item ≡ other) × (after ≡ behind_other)
one-item ends stream item other after behind_other x y =
    let same : some_item item x.used ≡ some_item other y.used = sym x.found ∙ one-found stream.rest x.shown y.shown x.shows y.shows ∙ y.found in
    let items : item ≡ other = same-item item other x.used y.used same in
    let used : x.used ≡ y.used = same-used item other x.used y.used same in (
      items,
      x.after_is ∙ ap (λ i. after_item (item_closes ends i) x.used stream) items
          ∙ ap (λ n. after_item (item_closes ends other) n stream) used ∙ sym y.after_is,
    )

pub not-both : (ends : Message → Bool) (stream : Stream) (item : StreamItem) (after : Stream)
    → IsItem ends stream item after → Undecided stream → ⊥
not-both ends stream item after x (inl closed) = absurd (let e : true ≡ false = sym closed ∙ x.is_open in cc)
not-both ends stream item after x (inr none) =
    absurd (let e : some_item item x.used ≡ None = sym x.found ∙ one-found stream.rest x.shown none.0 x.shows none.1 ∙ none.2 in cc)

-- an item lies in the bytes that are there, and more bytes don't change it
record Holds (stream more : List ℕ) (shown : Shown) (item : StreamItem) (used : ℕ) : Type 0 where
  within : used ≤ length stream
  found : found_of (stream ++ more) shown ≡ Some (item, used)

body-more : (head : RequestHead) (size : Option ℕ) (stream more : List ℕ) → size_of head size ≤ length stream
    → body_at head size (stream ++ more) ≡ body_at head size stream
body-more head size stream more within =
    ap (take (unwrap_or size 0)) (drop-append-le (length (print_request head)) stream more (omega arith))
    ∙ take-append-le (unwrap_or size 0) (drop (length (print_request head)) stream) more (rw length-drop (omega arith))

whole-more : (head : RequestHead) (size : Option ℕ) (stream more : List ℕ) (item : StreamItem) (used : ℕ) (whole : Bool)
    → leb (size_of head size) (length stream) ≡ whole → whole_at head size stream ≡ Some (item, used)
    → (used ≤ length stream) × (whole_at head size (stream ++ more) ≡ Some (item, used))
whole-more head size stream more item used true e found =
    let within : size_of head size ≤ length stream = grind (arith, nat_tests) in
    let longer : length (stream ++ more) ≡ length stream + length more = length-append stream more in
    let still : leb (size_of head size) (length (stream ++ more)) ≡ true = grind (arith, nat_tests) in
    let here : some_item (StreamItem.Whole (message_of head size (body_at head size stream))) (size_of head size) ≡ some_item item used = rw e at found in
    let taken : size_of head size ≡ used =
    same-used (StreamItem.Whole (message_of head size (body_at head size stream))) item (size_of head size) used here in
    (omega arith, rw still (ap (λ body. some_item (StreamItem.Whole (message_of head size body)) (size_of head size)) (body-more head size stream more within) ∙ here))
whole-more head size stream more item used false e found =
    absurd (let none : None ≡ some_item item used = rw e at found in cc)

behind-more : (head : RequestHead) (said : Result (Option ℕ) HttpFault) (stream more : List ℕ) (item : StreamItem) (used : ℕ)
    → behind head said stream ≡ Some (item, used)
    → (used ≤ length stream) × (behind head said (stream ++ more) ≡ Some (item, used))
behind-more head (Err fault) stream more item used found =
    let taken : 0 ≡ used = same-used (StreamItem.Closing fault) item 0 used found in (omega arith, found)
behind-more head (Ok size) stream more item used found =
    whole-more head size stream more item used (leb (size_of head size) (length stream)) refl found

found-more : (stream more : List ℕ) (shown : Shown) (item : StreamItem) (used : ℕ) → found_of stream shown ≡ Some (item, used)
    → (used ≤ length stream) × (found_of (stream ++ more) shown ≡ Some (item, used))
found-more stream more Shown.Nothing item used found = absurd (cc)
found-more stream more Shown.TooLarge item used found =
    let taken : 0 ≡ used = same-used (StreamItem.Closing HttpFault.S431) item 0 used found in (omega arith, found)
found-more stream more Shown.Unreadable item used found =
    let taken : 0 ≡ used = same-used (StreamItem.Closing HttpFault.S400) item 0 used found in (omega arith, found)
found-more stream more (Shown.Head head) item used found = behind-more head (body_length head) stream more item used found

shown-decided : (stream : List ℕ) (shown : Shown) (item : StreamItem) (used : ℕ) → found_of stream shown ≡ Some (item, used) → ¬ (shown ≡ Shown.Nothing)
shown-decided stream shown item used found e =
    let none : None ≡ some_item item used = sym (ap (found_of stream) e) ∙ found in cc

-- what is decided stays decided
pub item_more : (ends : Message → Bool) (stream : Stream) (item : StreamItem) (after : Stream) (more : List ℕ)
    → IsItem ends stream item after → IsItem ends (with_more stream more) item (with_more after more)
item_more ends stream item after more x =
    let holds = found-more stream.rest more x.shown item x.used x.found in
    record {
      shown = x.shown;
      used = x.used;
      is_open = x.is_open;
      shows = shows-more stream.rest more x.shown (shown-decided stream.rest x.shown item x.used x.found) x.shows;
      found = holds.1;
      after_is = ap (λ s. with_more s more) x.after_is
          ∙ ap (λ rest. record {
            rest = rest;
            given = stream.given + 1;
            closed = (after_item (item_closes ends item) x.used stream).closed;
          }) (sym (drop-append-le x.used stream.rest more holds.0));
    }

pub items-more : (ends : Message → Bool) (stream : Stream) (items : List StreamItem) (after : Stream) (more : List ℕ)
    → Items ends stream items after → Items ends (with_more stream more) items (with_more after more)
items-more ends stream items after more (Items.none s) = Items.none (with_more s more)
items-more ends stream items after more (Items.next s item between rest t one others) =
    Items.next (with_more s more) item (with_more between more) rest (with_more t more)
    (item_more ends s item between more one) (items-more ends between rest t more others)

pub items-then : (ends : Message → Bool) (stream between after : Stream) (items others : List StreamItem)
    → Items ends stream items between → Items ends between others after → Items ends stream (items ++ others) after
items-then ends stream between after items others (Items.none s) then_ = then_
items-then ends stream between after items others (Items.next s item mid rest t one later) then_ =
    Items.next s item mid (rest ++ others) after one (items-then ends mid between after rest others later then_)

-- up to where nothing more is decided, a stream has one list of items
pub one-list : (ends : Message → Bool) (stream : Stream) (items others : List StreamItem) (after rest : Stream)
    → Items ends stream items after → Undecided after → Items ends stream others rest → Undecided rest → (items ≡ others) × (after ≡ rest)
one-list ends stream items others after rest (Items.none s) ends_here (Items.none t) ends_there = (refl, refl)
one-list ends stream items others after rest (Items.none s) ends_here (Items.next t item between more u one later) ends_there =
    absurd (not-both ends s item between one ends_here)
one-list ends stream items others after rest (Items.next s item between more t one later) ends_here (Items.none u) ends_there =
    absurd (not-both ends s item between one ends_there)
one-list ends stream items others after rest (Items.next s item between more t one later) ends_here (Items.next u other mid less v two further) ends_there =
    let same = one-item ends s item other between mid one two in
    let P : Stream → Type 0 = λ st. Items ends st less v in
    let tails = one-list ends between more less t v later ends_here (subst P (sym same.1) further) ends_there in
    (ap (λ x. x ∷ more) same.0 ∙ ap (λ xs. other ∷ xs) tails.0, tails.1)

-- the items of a stream that comes in pieces are those of the whole
pub pieces-whole : (ends : Message → Bool) (stream : Stream) (pieces : List (List ℕ)) (items : List StreamItem) (after : Stream)
    → Pieces ends stream pieces items after → Items ends (with_more stream (flat_map (λ piece. piece) pieces)) items after
pieces-whole ends stream pieces items after (Pieces.end s) =
    let P : List ℕ → Type 0 = λ rest. Items ends (record { rest = rest; given = s.given; closed = s.closed }) [] s in
    subst P (sym (append-nil s.rest)) (Items.none s)
pieces-whole ends stream pieces items after (Pieces.piece s first given between later others t ones undecided more) =
    let rest = flat_map (λ (piece : List ℕ). piece) later in
    let here = items-more ends (with_more s first) given between rest ones in
    let there = pieces-whole ends between later others t more in
    let P : List ℕ → Type 0 = λ left. Items ends (record { rest = left; given = s.given; closed = s.closed }) (given ++ others) t in
    subst P (append_assoc s.rest first rest) (items-then ends (with_more (with_more s first) rest) (with_more between rest) t given others here there)
