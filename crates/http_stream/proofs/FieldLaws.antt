-- What one pass over the fields gathers is what is asked of them, one by one.
use Rattle.std.proofs.Common.{◌≡◌, ◌≤◌, ℕ, ◌-◌, min, Bool, true, false, cond, eqb, ltb, ◌||◌, List, [], ◌∷◌, length, map, take, drop, Option, Ok, Err, refl, sym, ap, subst, ◌∙◌, arith}
use Rattle.std.specs.List.{fold, list_any}
use Rattle.std.proofs.lemmas.List.{length-take}
use Rattle.std.proofs.Math.ListN.{length-map}
use Rattle.httparse.specs.Grammar.{Field, RequestHead, print_request}
use Rattle.httparse.specs.Spans.{IsRequestAt, IsRequestWithin, IsWithin, header_bytes, name_and_value, span_bytes}
use Rattle.httparse.specs.declared.spans.HeaderSpan.{HeaderSpan}
use Rattle.httparse.specs.declared.spans.RequestSpans.{RequestSpans}
use Rattle.http_stream.specs.declared.fault.HttpFault.{HttpFault}
use Rattle.http_stream.specs.declared.head.Facts.{Facts}
use Rattle.http_stream.specs.declared.head.HeadAt.{HeadAt}
use Rattle.http_stream.specs.declared.head.Parsed.{Parsed}
use Rattle.http_stream.specs.declared.head.Tally.{Tally}
use Rattle.http_stream.specs.Heads.{Pair, body_length, closes, coding_name, is_close, key_name, length_name, named_with, only_value, pairs_of, said_length}
use Rattle.http_stream.specs.Reading.{AreFactsWithin, FieldFacts, FoundAs, JudgedAs, ParsesAs, facts_of, facts_with, length_said, no_facts, only_span}
use Rattle.http_stream.specs.Stream.{Begins, IsHeadAt}

or-false : (a : Bool) → (a || false) ≡ a
or-false true = refl
or-false false = refl

or-or : (a b c : Bool) → ((a || b) || c) ≡ (a || (b || c))
or-or true b c = refl
or-or false b c = refl

-- the facts that all these fields add to others
abbrev facts-apart : FieldFacts → List Pair → FieldFacts
facts-apart facts pairs = record {
  key = fold (named_with key_name) facts.key pairs;
  length = fold (named_with length_name) facts.length pairs;
  coding = fold (named_with coding_name) facts.coding pairs;
  closes = facts.closes || list_any is_close pairs;
}

facts-split-from : (facts : FieldFacts) (pairs : List Pair) → fold facts_with facts pairs ≡ facts-apart facts pairs
facts-split-from facts [] =
    ap (λ b. record { key = facts.key; length = facts.length; coding = facts.coding; closes = b }) (sym (or-false facts.closes))
facts-split-from facts (pair ∷ pairs) =
    facts-split-from (facts_with facts pair) pairs
    ∙ ap (λ b. record {
      key = fold (named_with key_name) (named_with key_name facts.key pair) pairs;
      length = fold (named_with length_name) (named_with length_name facts.length pair) pairs;
      coding = fold (named_with coding_name) (named_with coding_name facts.coding pair) pairs;
      closes = b;
    }) (or-or facts.closes (is_close pair) (list_any is_close pairs))

-- what was gathered of a text is what its head says
pub facts-are : (text : List ℕ) (facts : Facts) (pairs : List Pair) → facts_of text facts ≡ fold facts_with no_facts pairs
    → facts_of text facts ≡ facts-apart no_facts pairs
facts-are text facts pairs is = is ∙ facts-split-from no_facts pairs

only-within : (size : ℕ) (tally : Tally) (one : Bool) → IsWithin size tally.value
    → IsWithin size (cond one tally.value (record { start = 0; end = 0 }))
only-within size tally true is = is
only-within size tally false is = (omega arith, omega arith)

only-value : (text : List ℕ) (tally : Tally) (one : Bool)
    → span_bytes text (cond one tally.value (record { start = 0; end = 0 })) ≡ cond one (span_bytes text tally.value) []
only-value text tally true = refl
only-value text tally false = refl

-- what the spans and the facts of a head say is what the head says
record Gathered (text : List ℕ) (request : RequestSpans) (facts : Facts) (head : RequestHead) : Type 0 where
  begins : Begins text head
  size : request.len ≡ length (print_request head)
  within : request.len ≤ length text
  method_within : IsWithin request.len request.method
  target_within : IsWithin request.len request.path
  facts_within : AreFactsWithin request.len facts
  method : span_bytes text request.method ≡ head.method
  target : span_bytes text request.path ≡ head.target
  minor : request.version ≡ head.minor
  facts_are : facts_of text facts ≡ facts-apart no_facts (pairs_of head)

length-said : (text : List ℕ) (request : RequestSpans) (facts : Facts) (head : RequestHead) → Gathered text request facts head
    → length_said text facts ≡ body_length head
length-said text request facts head is =
    ap (λ f. cond (ltb 0 f.coding.count) (Err HttpFault.S501) (said_length f.length)) is.facts_are

head-at : (text : List ℕ) (request : RequestSpans) (facts : Facts) (head : RequestHead) (size : Option ℕ) → Gathered text request facts head
    → length_said text facts ≡ Ok size
    → IsHeadAt text head (record {
      size = request.len;
      method = request.method;
      target = request.path;
      key = only_span facts.key;
      length = size;
      closes = eqb request.version 0 || facts.closes;
    })
head-at text request facts head size is said = record {
  size = is.size;
  within = is.within;
  method_within = is.method_within;
  target_within = is.target_within;
  key_within = only-within request.len facts.key (eqb facts.key.count 1) is.facts_within.key;
  method = is.method;
  target = is.target;
  key = only-value text facts.key (eqb facts.key.count 1) ∙ ap (λ f. only_value f.key) is.facts_are;
  length = sym (length-said text request facts head is) ∙ said;
  closes = ap (λ n. eqb n 0 || facts.closes) is.minor ∙ ap (λ f. eqb head.minor 0 || f.closes) is.facts_are;
}

judged-parses : (text : List ℕ) (request : RequestSpans) (facts : Facts) (head : RequestHead) (result : Parsed) → Gathered text request facts head
    → JudgedAs text request facts result → ParsesAs text result
judged-parses text request facts head Parsed.NoHead is judged = absurd judged
judged-parses text request facts head (Parsed.Refused fault) is judged =
    (head, is.begins, sym (length-said text request facts head is) ∙ judged)
judged-parses text request facts head (Parsed.Head at) is judged =
    let P : HeadAt → Type 0 = λ a. IsHeadAt text head a in
    (head, is.begins, subst P (sym judged.1) (head-at text request facts head at.length is judged.0))

few-fields : (text : List ℕ) (fields : List HeaderSpan) (count : ℕ) (of_head : List Field)
    → map (header_bytes text) (take count fields) ≡ map name_and_value of_head → length fields ≤ 64 → length of_head ≤ 64
few-fields text fields count of_head are all =
    let same : length (take count fields) ≡ length of_head = simp length-map at (ap length are) in
    let taken : length (take count fields) ≡ min count (length fields) = length-take count fields in
    omega arith

pub head-parses : (text : List ℕ) (fields : List HeaderSpan) (request : RequestSpans) (facts : Facts) (result : Parsed) (head : RequestHead)
    → IsRequestAt text fields request head → IsRequestWithin text fields request → length fields ≤ 64
    → facts_of text facts ≡ fold facts_with no_facts (map (header_bytes text) (take request.headers fields))
    → AreFactsWithin request.len facts → JudgedAs text request facts result → ParsesAs text result
head-parses text fields request facts result head at within all gathered facts_within judged =
    let pairs : fold facts_with no_facts (map (header_bytes text) (take request.headers fields)) ≡ fold facts_with no_facts (pairs_of head) =
    ap (fold facts_with no_facts) at.fields in
    judged-parses text request facts head result (record {
      begins = record { tail = drop request.len text; reads = at.reads; few = few-fields text fields request.headers head.fields at.fields all };
      size = at.len;
      within = within.section.len_fits;
      method_within = within.method;
      target_within = within.path;
      facts_within = facts_within;
      method = at.method;
      target = at.path;
      minor = at.version;
      facts_are = facts-are text facts (pairs_of head) (gathered ∙ pairs);
    }) judged

-- what is read of a text is found in it
pub found-of : (text : List ℕ) (result : Parsed) → ParsesAs text result → FoundAs text result
found-of text Parsed.NoHead parses = tt
found-of text (Parsed.Refused fault) parses = parses
found-of text (Parsed.Head at) parses = parses
