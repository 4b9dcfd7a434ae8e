-- What a stream shows stays shown when more bytes come.
use Rattle.std.proofs.Common.{◌≡◌, ◌≤◌, ◌<◌, ℕ, ◌+◌, ◌-◌, min, Bool, true, false, ltb, List, [], ◌∷◌, ◌++◌, length, take, Option, None, Some, refl, sym, ap, subst, ◌∙◌, arith, length-append, zero, suc}
use Rattle.std.proofs.lemmas.List.{length-take, take-append-le, take_all}
use Rattle.std.proofs.lemmas.List.Sums.{fold-append}
use Rattle.std.proofs.lemmas.Bool.Decides.{nat_tests}
use Rattle.httparse.specs.Grammar.{RequestHead}
use Rattle.http_stream.specs.declared.head.HeadAt.{HeadAt}
use Rattle.http_stream.specs.declared.scan.Scan.{Scan}
use Rattle.http_stream.specs.Kept.{IsKept, IsScanned, StandsAt}
use Rattle.http_stream.specs.Lines.{Front, field_limit, front, front_of, head_limit, scan_of, scan_of_nothing, with_byte}
use Rattle.http_stream.specs.Stream.{Begins, Shown, Shows, Stream, with_more}
use Rattle.http_stream.proofs.HeadLaws.{head-append}
use Rattle.http_stream.proofs.LineLaws.{ended-stays, scan-size}

-- the first bytes of a stream with more behind it
take-more : (n : ℕ) (rest more : List ℕ) → length rest ≤ n → take n (rest ++ more) ≡ rest ++ take (n - length rest) more
take-more n [] more le = ap (λ k. take k more) (omega arith)
take-more zero (x ∷ rest) more le = absurd (omega arith)
take-more (suc n) (x ∷ rest) more le =
    ap (λ xs. x ∷ xs) (take-more n rest more (omega arith) ∙ ap (λ k. rest ++ take k more) (omega arith))

ended-more : (rest more : List ℕ) → length rest < head_limit → (scan_of (take head_limit rest)).ended ≡ true
    → scan_of (take head_limit (rest ++ more)) ≡ scan_of (take head_limit rest)
ended-more rest more few ended =
    let all : take head_limit rest ≡ rest = take_all head_limit rest (omega arith) in
    let done : (scan_of rest).ended ≡ true = rw all at ended in
    let goes_on : take head_limit (rest ++ more) ≡ rest ++ take (head_limit - length rest) more = take-more head_limit rest more (omega arith) in
    ap scan_of goes_on ∙ fold-append with_byte scan_of_nothing rest (take (head_limit - length rest) more)
    ∙ ended-stays (scan_of rest) done (take (head_limit - length rest) more) ∙ ap scan_of (sym all)

-- where a head's text ended, it doesn't matter how many bytes came
front-of-ended : (came more : ℕ) (scan : Scan) → scan.ended ≡ true → front_of more scan ≡ front_of came scan
front-of-ended came more scan ended = rw ended refl

-- nor where as many came as a head may have
front-of-many : (came more : ℕ) (scan : Scan) → head_limit ≤ came → came ≤ more → front_of more scan ≡ front_of came scan
front-of-many came more scan many le =
    let first : ltb came head_limit ≡ false = grind (arith, nat_tests) in
    let second : ltb more head_limit ≡ false = grind (arith, nat_tests) in
    rw (first, second) refl

front-few : (rest more : List ℕ) (shape : Front) (ended : Bool) → length rest < head_limit → (scan_of (take head_limit rest)).ended ≡ ended
    → front rest ≡ shape → ¬ (shape ≡ Front.Open) → front (rest ++ more) ≡ shape
front-few rest more shape true few ended is decided =
    ap (front_of (length (rest ++ more))) (ended-more rest more few ended)
    ∙ front-of-ended (length rest) (length (rest ++ more)) (scan_of (take head_limit rest)) ended ∙ is
front-few rest more shape false few ended is decided =
    let test : ltb (length rest) head_limit ≡ true = grind (arith, nat_tests) in
    let unended : front rest ≡ Front.Open = rw (ended, test) refl in
    absurd (decided (sym is ∙ unended))

front-by : (rest more : List ℕ) (shape : Front) (few : Bool) → ltb (length rest) head_limit ≡ few
    → front rest ≡ shape → ¬ (shape ≡ Front.Open) → front (rest ++ more) ≡ shape
front-by rest more shape true e is decided =
    let few : length rest < head_limit = grind (arith, nat_tests) in
    front-few rest more shape (scan_of (take head_limit rest)).ended few refl is decided
front-by rest more shape false e is decided =
    let many : head_limit ≤ length rest = grind (arith, nat_tests) in
    let longer : length rest ≤ length (rest ++ more) = rw length-append (omega arith) in
    ap (λ text. front_of (length (rest ++ more)) (scan_of text)) (take-append-le head_limit rest more many)
    ∙ front-of-many (length rest) (length (rest ++ more)) (scan_of (take head_limit rest)) many longer ∙ is

pub front-more : (rest more : List ℕ) (shape : Front) → front rest ≡ shape → ¬ (shape ≡ Front.Open) → front (rest ++ more) ≡ shape
front-more rest more shape is decided = front-by rest more shape (ltb (length rest) head_limit) refl is decided

-- a head's text lies in the stream
ended-size-by : (rest : List ℕ) (size : ℕ) (ended many few : Bool) → (scan_of (take head_limit rest)).ended ≡ ended
    → ltb (field_limit + 1) (scan_of (take head_limit rest)).filled ≡ many → ltb (length rest) head_limit ≡ few
    → front rest ≡ Front.Ended size → (scan_of (take head_limit rest)).size ≡ size
ended-size-by rest size true true few a b c is = absurd (let e : Front.Full ≡ Front.Ended size = rw (a, b) at is in cc)
ended-size-by rest size true false few a b c is = let e : Front.Ended (scan_of (take head_limit rest)).size ≡ Front.Ended size = rw (a, b) at is in cc
ended-size-by rest size false many true a b c is = absurd (let e : Front.Open ≡ Front.Ended size = rw (a, c) at is in cc)
ended-size-by rest size false many false a b c is = absurd (let e : Front.Full ≡ Front.Ended size = rw (a, c) at is in cc)

-- it is no longer than a head may be, nor than what is there
pub ended-within : (rest : List ℕ) (size : ℕ) → front rest ≡ Front.Ended size → size ≤ min head_limit (length rest)
ended-within rest size is =
    let found = ended-size-by rest size (scan_of (take head_limit rest)).ended (ltb (field_limit + 1) (scan_of (take head_limit rest)).filled)
    (ltb (length rest) head_limit) refl refl refl is in
    let bound : (scan_of (take head_limit rest)).size ≤ 0 + length (take head_limit rest) = scan-size scan_of_nothing (take head_limit rest) in
    let taken : length (take head_limit rest) ≡ min head_limit (length rest) = length-take head_limit rest in
    omega arith

ended-size : (rest : List ℕ) (size : ℕ) → front rest ≡ Front.Ended size → size ≤ length rest
ended-size rest size is = omega (arith, ended-within rest size is)

pub text-more : (rest more : List ℕ) (size : ℕ) → front rest ≡ Front.Ended size → take size (rest ++ more) ≡ take size rest
text-more rest more size is = take-append-le size rest more (ended-size rest size is)

pub shows-more : (rest more : List ℕ) (shown : Shown) → ¬ (shown ≡ Shown.Nothing) → Shows rest shown → Shows (rest ++ more) shown
shows-more rest more Shown.Nothing decided shows = absurd (decided refl)
shows-more rest more Shown.TooLarge decided shows = front-more rest more Front.Full shows (λ e. cc)
shows-more rest more Shown.Unreadable decided shows =
    let P : List ℕ → Type 0 = λ text. (head : RequestHead) → ¬ (Begins text head) in
    (shows.0, front-more rest more (Front.Ended shows.0) shows.1 (λ e. cc), subst P (sym (text-more rest more shows.0 shows.1)) shows.2)
shows-more rest more (Shown.Head head) decided shows =
    let P : List ℕ → Type 0 = λ text. Begins text head in
    (shows.0, front-more rest more (Front.Ended shows.0) shows.1 (λ e. cc), subst P (sym (text-more rest more shows.0 shows.1)) shows.2)

scanned-more : (rest more : List ℕ) (scan : Scan) → IsScanned rest scan → IsScanned (rest ++ more) scan
scanned-more rest more scan is = record {
  is = is.is ∙ ap scan_of (sym (take-append-le scan.size rest more is.within));
  unended = is.unended;
  within = rw length-append (omega arith);
  few = is.few;
  lines = is.lines;
}

stands-more : (rest more : List ℕ) (waiting : Option HeadAt) → StandsAt rest waiting → StandsAt (rest ++ more) waiting
stands-more rest more None stands = tt
stands-more rest more (Some at) stands =
    (stands.0, shows-more rest more (Shown.Head stands.0) (λ e. cc) stands.1, head-append rest more stands.0 at stands.2)

pub kept-more : (stream : Stream) (more : List ℕ) (scan : Scan) (waiting : Option HeadAt) → IsKept stream scan waiting
    → IsKept (with_more stream more) scan waiting
kept-more stream more scan waiting is = record {
  few = is.few;
  more = is.more;
  scanned = scanned-more stream.rest more scan is.scanned;
  stands = stands-more stream.rest more waiting is.stands;
}
