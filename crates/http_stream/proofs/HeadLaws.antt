-- A head that stands at the front of a text stands there however the text goes on.
use Rattle.std.proofs.Common.{◌≡◌, ◌≤◌, ℕ, ◌+◌, ◌-◌, List, ◌++◌, length, take, drop, ap, subst, ◌∙◌, arith, length-append}
use Rattle.std.proofs.lemmas.List.{drop-append-le, length-drop, take-append-drop, take-append-le}
use Rattle.httparse.specs.Grammar.{RequestHead}
use Rattle.httparse.specs.Spans.{IsWithin, span_bytes}
use Rattle.httparse.specs.declared.spans.Span.{Span}
use Rattle.http_stream.specs.declared.head.HeadAt.{HeadAt}
use Rattle.http_stream.specs.Stream.{IsHeadAt}

range-append : (text more : List ℕ) (a b : ℕ) → a ≤ b → b ≤ length text → take (b - a) (drop a (text ++ more)) ≡ take (b - a) (drop a text)
range-append text more a b ordered within =
    ap (take (b - a)) (drop-append-le a text more (omega arith))
    ∙ take-append-le (b - a) (drop a text) more (rw length-drop (omega arith))

pub span-append : (text more : List ℕ) (size : ℕ) (span : Span) → IsWithin size span → size ≤ length text → span_bytes (text ++ more) span ≡ span_bytes text span
span-append text more size span is within = range-append text more span.start span.end is.0 (omega arith)

pub head-append : (text more : List ℕ) (head : RequestHead) (at : HeadAt) → IsHeadAt text head at → IsHeadAt (text ++ more) head at
head-append text more head at is = record {
  size = is.size;
  within = rw length-append (omega arith);
  method_within = is.method_within;
  target_within = is.target_within;
  key_within = is.key_within;
  method = span-append text more at.size at.method is.method_within is.within ∙ is.method;
  target = span-append text more at.size at.target is.target_within is.within ∙ is.target;
  key = span-append text more at.size at.key is.key_within is.within ∙ is.key;
  length = is.length;
  closes = is.closes;
}

-- what stands at the front of the first bytes stands at the front of all
pub head-take : (text : List ℕ) (n : ℕ) (head : RequestHead) (at : HeadAt) → IsHeadAt (take n text) head at → IsHeadAt text head at
head-take text n head at is =
    let P : List ℕ → Type 0 = λ t. IsHeadAt t head at in
    subst P (take-append-drop n text) (head-append (take n text) (drop n text) head at is)
