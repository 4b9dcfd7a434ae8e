-- What is read token by token of a flat object is the object that its text reads as.
use Rattle.std.proofs.Common.{◌≡◌, ℕ, ◌-◌, ◌<◌, ◌≤◌, List, [], ◌∷◌, ◌++◌, length, Option, Some, None, option_map, option_and_then, ◌==◌, ◌^◌, false, slice_index, lt-ltb, map, true≢false, refl, sym, ap, subst, ◌∙◌, arith}
use Rattle.std.specs.Prelude.{IfSome, MatchOption, is_some}
use Rattle.std.specs.Str.{IsUtf8}
use Rattle.std.proofs.lemmas.List.{map-append}
use Rattle.json.specs.Json as json
use Rattle.json.specs.Json.{Json, Parse, if_last, members, parse_map, read_key, value}
use Rattle.json.specs.Lex.{tokens}
use Rattle.json.specs.Token.{Token}
use Rattle.json.proofs.Grammar.{members_end, members_more, read_key-shorter, value-begin_object, value_is}
use Rattle.fast_float.specs.Text.{IsInteger, digits_of, scan}
use Rattle.serde_json.specs.Data.{Data, Members, no_members, number, object, put, string, unsigned}
use Rattle.serde_json.specs.Read.{converted, number_of, of_json, of_members, read}
use Rattle.agent_events.specs.JsonForms.{Member, asked_by_members}
use Rattle.agent_http.specs.Bodies.{asked_by_body, asked_by_object, members_in, text_of}
use Rattle.agent_http.specs.Views.{member_view, text_view}
use Rattle.agent_http.specs.declared.members.MemberText.{MemberText}
use Rattle.agent_http.proofs.FlatLaws.{Alike, alike-more, alike-none, asked-alike}
use Rattle.agent_http.proofs.MemberLaws.{object-read}

abbrev pick : {A : Type 0} → A → Option A → A
pick d None = d
pick d (Some a) = a

found-at : {A B : Type 0} (a : A) (r s : List Token) (x : Option B) (b : B) → option_map {U = B × List Token} (λ y. (y, r)) x ≡ Some (b, s)
    → (r ≡ s) × (x ≡ Some b)
found-at a r s None b e = absurd (cc)
found-at a r s (Some y) b e = let same = ap (pick (y, r)) e in (ap (λ p. p.1) same, ap (λ p. Some p.0) same)

converted-some : {A B : Type 0} (f : A → Option B) (o : Option (A × List Token)) (b : B) (r : List Token) → converted f o ≡ Some (b, r)
    → (a : A) × (o ≡ Some (a, r)) × (f a ≡ Some b)
converted-some f None b r e = absurd (cc)
converted-some f (Some p) b r e =
    let both = found-at p.0 p.1 r (f p.0) b e in
    (p.0, ap (λ s. Some (p.0, s)) both.0, both.1)

moved : {A B : Type 0} (g : A → B) (r : List Token) (x : Option A)
    → option_map (λ b. (b, r)) (option_map g x) ≡ parse_map g (option_map (λ a. (a, r)) x)
moved g r None = refl
moved g r (Some a) = refl

converted-object : (o : Option (json.Members × List Token))
    → converted of_json (parse_map json.object o) ≡ parse_map object (converted (λ ms. of_members ms no_members) o)
converted-object None = refl
converted-object (Some p) = moved object p.1 (of_members p.0 no_members)

with-member : (k : List ℕ) (j : Json) (d : Data) (old : Members) → of_json j ≡ Some d → (o : Option (json.Members × List Token))
    → converted (λ ms. of_members ms old) (parse_map (json.member k j) o) ≡ converted (λ ms. of_members ms (put k d old)) o
with-member k j d old e None = refl
with-member k j d old e (Some p) = rw e

member-read : (p : Parse Json) (old : Members) (n : ℕ) (k : List ℕ) (ts s r : List Token) (d : Data) → 0 < n → read_key ts ≡ Some (Some k, s)
    → converted of_json (p s) ≡ Some (d, r)
    → converted (λ ms. of_members ms old) (members p n ts) ≡ converted (λ ms. of_members ms (put k d old)) (members p (n - 1) r)
member-read p old n k ts s r d some key e =
    let j = converted-some of_json (p s) d r e in
    ap (converted (λ ms. of_members ms old)) (members_more p n k ts s r j.0 some key j.1) ∙ with-member k j.0 d old j.2 _

abbrev whole-of : Option (Json × List Token) → Option Data
whole-of o = option_and_then of_json (option_and_then (λ p. if_last p.0 p.1) o)

whole-read : (o : Option (Json × List Token)) (d : Data) → converted of_json o ≡ Some (d, []) → whole-of o ≡ Some d
whole-read o d e = let j = converted-some of_json o d [] e in ap whole-of j.1 ∙ j.2

abbrev read-from : Members → ℕ → List Token → Option (Members × List Token)
read-from old turns ts = converted (λ ms. of_members ms old) (members (value 126) turns ts)

-- these members were read of the tokens, and now these are left
pub record IsRead (start : List Token) (now : List Token) (found : List Member) : Type 0 where
  pub old : Members
  pub turns : ℕ
  pub enough : length now ≤ turns
  pub same : read-from no_members (length start) start ≡ read-from old turns now
  pub alike : Alike old found

pub read-none : (ts : List Token) → IsRead ts ts []
read-none ts = record { old = no_members; turns = length ts; enough = omega arith; same = refl; alike = alike-none }

pub read-more : (start now s r : List Token) (found : List Member) (k : List ℕ) (d : Data) (x : Member) → IsRead start now found
    → read_key now ≡ Some (Some k, s) → converted of_json (value 126 s) ≡ Some (d, r) → length r < length s
    → x ≡ record { name = k; text = text_of d } → IsRead start r (found ++ x ∷ [])
read-more start now s r found k d x is named valued shorter same =
    let less : length s < length now = read_key-shorter now (Some k) s named in
    let enough : length now ≤ is.turns = is.enough in
    record {
      old = put k d is.old;
      turns = is.turns - 1;
      enough = omega arith;
      same = is.same ∙ member-read (value 126) is.old is.turns k now s r d (omega arith) named valued;
      alike = alike-more is.old found k d x same is.alike;
    }

pub read-all : (start now r : List Token) (found : List Member) → IsRead start now found → read_key now ≡ Some (None, r)
    → (whole : Members) × (read-from no_members (length start) start ≡ Some (whole, r))
    × ((verb : List ℕ) → asked_by_members verb found ≡ asked_by_members verb (members_in whole))
read-all start now r found is over = (
  is.old,
  is.same ∙ ap (converted (λ ms. of_members ms is.old)) (members_end (value 126) is.turns now r is.enough over),
  asked-alike is.old found is.alike,
)

pub flat-asks : (text : List ℕ) (rest : List Token) (found : List Member) (whole : Members) → IsUtf8 text
    → tokens text ≡ Token.begin_object ∷ rest → read-from no_members (length rest) rest ≡ Some (whole, [])
    → ((verb : List ℕ) → asked_by_members verb found ≡ asked_by_members verb (members_in whole))
    → (verb : List ℕ) → asked_by_members verb found ≡ asked_by_body verb text
flat-asks text rest found whole utf8 opened is asks verb =
    let valued : converted of_json (value 127 (tokens text)) ≡ Some (object whole, []) =
    ap (converted of_json) (ap (value 127) opened ∙ value-begin_object 127 rest (omega arith))
    ∙ converted-object (members (value 126) (length rest) rest) ∙ ap (parse_map object) is in
    let reads : read text ≡ Some (object whole) = whole-read (value 127 (tokens text)) (object whole) valued in
    asks verb ∙ ap (asked_by_object verb) (sym (object-read text (object whole) utf8 reads))

-- a number in digits alone is a whole one
pub number-reads : (text : List ℕ) (n : ℕ) → (slice_index text 0 == 45) ≡ false → IsInteger (scan text) → digits_of (scan text) < 2 ^ 64
    → digits_of (scan text) ≡ n → number_of text ≡ Some (unsigned n)
unfolding number_of
number-reads text n plain whole fits is =
    rw (plain, lt-ltb _ _ whole.0, whole.1, whole.2, lt-ltb _ _ fits) (ap (λ m. Some (unsigned m)) is)

pub text-value : (ts rest : List Token) (text : List ℕ) → ts ≡ Token.string text ∷ rest → converted of_json (value 126 ts) ≡ Some (string text, rest)
text-value ts rest text is = ap (converted of_json) (ap (value 126) is ∙ value_is 126 (Token.string text ∷ rest))

pub number-value : (ts rest : List Token) (text : List ℕ) (n : ℕ) → ts ≡ Token.number text ∷ rest → number_of text ≡ Some (unsigned n)
    → converted of_json (value 126 ts) ≡ Some (number (unsigned n), rest)
number-value ts rest text n is valued =
    ap (converted of_json) (ap (value 126) is ∙ value_is 126 (Token.number text ∷ rest)) ∙ rw valued refl

pub kept : {X : Type 0} (P Q : X → Type 0) (found : Option X) → ((x : X) → P x → Q x) → IfSome found P → IfSome found Q
kept P Q None f h = tt
kept P Q (Some x) f h = f x h

same-member : (a b : List ℕ) (s t : Option (List ℕ)) (x y : Member) → x ≡ record { name = a; text = s } → y ≡ record { name = b; text = t }
    → a ≡ b → s ≡ t → x ≡ y
same-member a b s t x y x-is y-is names texts =
    let first : x ≡ record { name = b; text = s } = x-is ∙ ap (λ n. record { name = n; text = s }) names in
    first ∙ ap (λ u. record { name = b; text = u }) texts ∙ sym y-is

-- a member more was read
pub read-pushed : (start now s r : List Token) (old new : List MemberText) (v : MemberText) (k : List ℕ) (d : Data)
    → IsRead start now (map member_view old) → read_key now ≡ Some (Some k, s) → converted of_json (value 126 s) ≡ Some (d, r)
    → length r < length s → v.name.now ≡ k → text_view v.text ≡ text_of d → new ≡ old ++ v ∷ [] → IsRead start r (map member_view new)
read-pushed start now s r old new v k d is named valued shorter name text more =
    let x : Member = record { name = k; text = text_of d } in
    let same : member_view v ≡ x = same-member v.name.now k (text_view v.text) (text_of d) (member_view v) x refl refl name text in
    subst (λ ms. IsRead start r ms) (sym (ap (map member_view) more ∙ map-append member_view old (v ∷ [])))
    (read-more start now s r (map member_view old) k d (member_view v) is named valued shorter same)

pub none-there : {X : Type 0} (P : Type 0) (Q : X → Type 0) (found : Option X) → false ≡ is_some found → MatchOption found P Q → P
none-there P Q None e h = h
none-there P Q (Some x) e h = absurd (true≢false (sym e))
