-- What the readers of a head say of spans in a text.
use Rattle.std.specs.Prelude.{◌≡◌, ℕ, Bool, false, ◌||◌, nat_lt, nat_eq, if◌then◌else◌, List, length, Ok, Err, Result, Option}
use Rattle.httparse.specs.Grammar.{RequestHead}
use Rattle.httparse.specs.Spans.{IsWithin, span_bytes}
use Rattle.httparse.specs.declared.spans.RequestSpans.{RequestSpans}
use Rattle.httparse.specs.declared.spans.Span.{Span}
use Rattle.http_stream.specs.declared.fault.HttpFault.{HttpFault}
use Rattle.http_stream.specs.declared.head.Facts.{Facts}
use Rattle.http_stream.specs.declared.head.Parsed.{Parsed}
use Rattle.http_stream.specs.declared.head.Tally.{Tally}
use Rattle.http_stream.specs.Heads.{Named, Pair, body_length, coding_name, is_close, key_name, length_name, named_with, said_length, none_named}
use Rattle.http_stream.specs.Stream.{Begins, IsHeadAt}

abbrev pub named_of : List ℕ → Tally → Named
named_of text tally = record { count = tally.count; value = span_bytes text tally.value }

-- what is asked of a head's fields, gathered in one pass
pub record FieldFacts : Type 0 where
  pub key : Named
  pub length : Named
  pub coding : Named
  pub closes : Bool

abbrev pub no_facts : FieldFacts
no_facts = record { key = none_named; length = none_named; coding = none_named; closes = false }

abbrev pub facts_with : FieldFacts → Pair → FieldFacts
facts_with facts pair = record {
  key = named_with key_name facts.key pair;
  length = named_with length_name facts.length pair;
  coding = named_with coding_name facts.coding pair;
  closes = facts.closes || is_close pair;
}

abbrev pub facts_of : List ℕ → Facts → FieldFacts
facts_of text facts = record {
  key = named_of text facts.key;
  length = named_of text facts.length;
  coding = named_of text facts.coding;
  closes = facts.closes;
}

abbrev pub IsTallyWithin : ℕ → Tally → Type 0
IsTallyWithin size tally = IsWithin size tally.value

pub record AreFactsWithin (size : ℕ) (facts : Facts) : Type 0 where
  pub key : IsTallyWithin size facts.key
  pub length : IsTallyWithin size facts.length
  pub coding : IsTallyWithin size facts.coding

abbrev pub length_said : List ℕ → Facts → Result (Option ℕ) HttpFault
length_said text facts =
    if nat_lt 0 facts.coding.count then Err HttpFault.S501 else said_length (named_of text facts.length)

abbrev pub only_span : Tally → Span
only_span tally = if nat_eq tally.count 1 then tally.value else record { start = 0; end = 0 }

-- what a head with these spans and facts is read as
abbrev pub JudgedAs : List ℕ → RequestSpans → Facts → Parsed → Type 0
JudgedAs text request facts Parsed.NoHead = ⊥
JudgedAs text request facts (Parsed.Refused fault) = length_said text facts ≡ Err fault
JudgedAs text request facts (Parsed.Head at) =
    (length_said text facts ≡ Ok at.length)
    × (at ≡ record {
      size = request.len;
      method = request.method;
      target = request.path;
      key = only_span facts.key;
      length = at.length;
      closes = nat_eq request.version 0 || facts.closes;
    })

-- what stands at the front of a text
abbrev pub ParsesAs : List ℕ → Parsed → Type 0
ParsesAs text Parsed.NoHead = (head : RequestHead) → ¬ (Begins text head)
ParsesAs text (Parsed.Refused fault) = (head : RequestHead) × Begins text head × (body_length head ≡ Err fault)
ParsesAs text (Parsed.Head at) = (head : RequestHead) × Begins text head × IsHeadAt text head at

-- the same where nothing is said of a text without a head
abbrev pub FoundAs : List ℕ → Parsed → Type 0
FoundAs text Parsed.NoHead = Unit {0}
FoundAs text (Parsed.Refused fault) = (head : RequestHead) × Begins text head × (body_length head ≡ Err fault)
FoundAs text (Parsed.Head at) = (head : RequestHead) × Begins text head × IsHeadAt text head at

-- no name of so many bytes is asked for
pub record IsNoName (size : ℕ) : Type 0 where
  pub key : nat_eq size 11 ≡ false
  pub length : nat_eq size 14 ≡ false
  pub coding : nat_eq size 17 ≡ false
  pub connection : nat_eq size 10 ≡ false
