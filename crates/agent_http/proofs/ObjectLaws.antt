-- The object of a reply, written member by member in the order of the names, is the object into which the texts are put one
-- after the other.
use Rattle.std.proofs.Common.{Bor, ◌≡◌, ◌<◌, ℕ, ◌+◌, List, [], ◌∷◌, ◌++◌, Option, Some, None, length, map, take, get_or, flat_map, slice_get, codes, refl, sym, ap, ◌∙◌}
use Rattle.std.specs.List.{fold, zip}
use Rattle.std.specs.Option.{option_copied}
use Rattle.std.specs.Slice.{IsItemAt}
use Rattle.std.proofs.lemmas.List.{flat_map_more, take_more}
use Rattle.std.proofs.lemmas.Option.{slice_get_past, slice_get_read}
use Rattle.json.specs.Print.{print}
use Rattle.json.specs.Token.{Token}
use Rattle.json.specs.Tree.{members_tokens}
use Rattle.serde_json.specs.Data.{Members, no_members, object}
use Rattle.serde_json.specs.Written.{compact_text, members_outline}
use Rattle.serde_json.proofs.Texts.{print-outline}
use Rattle.serde_json.proofs.OnLiterals.{serde_json_on_literals}
use Rattle.agent_events.specs.AnswerTexts.{answer_texts, refusal_values}
use Rattle.agent_events.specs.declared.reply.Reply.{Reply}
use Rattle.agent_http.specs.ReplyBodies.{first_name, names_of, put_text, without_ok}
use Rattle.agent_http.specs.Members.{member_tokens, members_at, members_of, put_name, text_places, with_text}

-- what a look-up lends
pub found-at : {X : Type 0} (xs : List X) (i : ℕ) (found : Option (Bor X)) → IsItemAt xs i found → option_copied found ≡ slice_get xs i
found-at xs i None is = sym (slice_get_past xs i is.3)
found-at xs i (Some x) is = sym (slice_get_read xs (length xs) i x.now refl is.3.0 is.1)

-- the tokens of one more item
pub written-more : {X : Type 0} (f : X → List Token) (front old new more : List Token) (xs : List X) (i : ℕ) (d : X) → i < length xs → old ≡ front ++ flat_map f (take i xs)
    → new ≡ old ++ more → more ≡ f (get_or xs i d) → new ≡ front ++ flat_map f (take (i + 1) xs)
written-more f front old new more xs i d inside so_far pushed is =
    rw (pushed, so_far, is, take_more xs i d inside) (flat_map_more f front (take i xs) (get_or xs i d))

-- the tokens of the members and the end of the object
member-written : (name : List ℕ) (text : Option (List ℕ)) (later : List Token) (rest : Members) → later ++ Token.end_object ∷ [] ≡ members_tokens (members_outline rest)
    → (member_tokens name text ++ later) ++ Token.end_object ∷ [] ≡ members_tokens (members_outline (with_text name text rest))
member-written name None later rest are = are
member-written name (Some text) later rest are = ap (λ ts. Token.key name ∷ Token.string text ∷ ts) are

pub members-written : {X : Type 0} (f : X → List ℕ × ℕ) (xs : List X) (texts : List (List ℕ))
    → flat_map (λ x. member_tokens (f x).0 (slice_get texts (f x).1)) xs ++ Token.end_object ∷ [] ≡ members_tokens (members_outline (members_at (map f xs) texts))
members-written f [] texts = refl
members-written f (x ∷ xs) texts =
    member-written (f x).0 (slice_get texts (f x).1) (flat_map (λ x. member_tokens (f x).0 (slice_get texts (f x).1)) xs) (members_at (map f xs) texts) (members-written f xs texts)

pub object-written : {X : Type 0} (f : X → List ℕ × ℕ) (xs : List X) (texts : List (List ℕ)) (none front begun written ended bytes : List ℕ) (no_tokens first members all : List Token)
    → none ≡ [] → front ≡ none → begun ≡ front → written ≡ begun → ended ≡ written → no_tokens ≡ [] → first ≡ no_tokens ++ Token.begin_object ∷ []
    → members ≡ first ++ flat_map (λ x. member_tokens (f x).0 (slice_get texts (f x).1)) xs → all ≡ members ++ Token.end_object ∷ [] → bytes ≡ ended ++ print all
    → bytes ≡ compact_text (object (members_at (map f xs) texts))
object-written f xs texts none front begun written ended bytes no_tokens first members all h0 h1 h2 h3 h4 t0 t1 t2 t3 is =
    rw (is, h4, h3, h2, h1, h0, t3, t2, t1, t0) (ap (λ ts. print (Token.begin_object ∷ ts)) (members-written f xs texts) ∙ print-outline (object (members_at (map f xs) texts)))

-- a refusal has a number and up to two values
refused-members : (named : List (List ℕ × ℕ)) (texts : List (List ℕ)) → named ≡ fold put_name [] (zip (first_name ∷ codes "code" ∷ codes "value" ∷ codes "second" ∷ []) text_places)
    → members_at named (codes "no" ∷ texts) ≡ fold put_text no_members (zip (first_name ∷ codes "code" ∷ codes "value" ∷ codes "second" ∷ []) (codes "no" ∷ texts))
unfolding serde_json_on_literals
refused-members named [] is = rw is refl
refused-members named (a ∷ []) is = rw is refl
refused-members named (a ∷ b ∷ []) is = rw is refl
refused-members named (a ∷ b ∷ c ∷ texts) is = rw is refl

pub same-members : (reply : Reply) → members_at (members_of reply) (without_ok (answer_texts reply)) ≡ fold put_text no_members (zip (names_of reply) (without_ok (answer_texts reply)))
unfolding serde_json_on_literals
same-members (Reply.Order order) = refl
same-members (Reply.Cancel form) = refl
same-members (Reply.Calendar number) = refl
same-members (Reply.Class number) = refl
same-members (Reply.Dealer number) = refl
same-members (Reply.Household number) = refl
same-members (Reply.Account number) = refl
same-members (Reply.Close form) = refl
same-members (Reply.Dividend class moment) = refl
same-members (Reply.Sheet number) = refl
same-members (Reply.Fix fix gains) = refl
same-members (Reply.Show account positions) = refl
same-members (Reply.Trace traced) = refl
same-members (Reply.Statement account text) = refl
same-members (Reply.Books books) = refl
same-members (Reply.Refused refusal) = refused-members _ (refusal_values refusal) refl
