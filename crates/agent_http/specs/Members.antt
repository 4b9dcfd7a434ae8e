-- The members of a reply's object as they are written: in the order of the bytes of their names, each where it has a text.
use Rattle.std.specs.Prelude.{ℕ, List, [], ◌∷◌, Option, Some, None, slice_get}
use Rattle.std.specs.Cmp.Lexicographic.{slice_cmp}
use Rattle.std.specs.List.{fold, zip}
use Rattle.std.specs.Ordering.{nat_cmp, match_ordering}
use Rattle.json.specs.Token.{Token}
use Rattle.serde_json.specs.Data.{Members, no_members, member, string}
use Rattle.agent_events.specs.declared.reply.Reply.{Reply}
use Rattle.agent_http.specs.ReplyBodies.{names_of}

-- a name with the place of its text, put among others
abbrev pub put_name : List (List ℕ × ℕ) → List ℕ × ℕ → List (List ℕ × ℕ)
put_name [] named = named ∷ []
put_name (first ∷ rest) named =
    match_ordering (slice_cmp nat_cmp named.0 first.0) (named ∷ first ∷ rest) (named ∷ rest) (first ∷ put_name rest named)

-- a reply has at most eleven texts
abbrev pub text_places : List ℕ
text_places = 0 ∷ 1 ∷ 2 ∷ 3 ∷ 4 ∷ 5 ∷ 6 ∷ 7 ∷ 8 ∷ 9 ∷ 10 ∷ []

-- the names of a reply's texts in the order of their bytes, each with the place of its text
abbrev pub members_of : Reply → List (List ℕ × ℕ)
members_of reply = fold put_name [] (zip (names_of reply) text_places)

abbrev pub with_text : List ℕ → Option (List ℕ) → Members → Members
with_text name None rest = rest
with_text name (Some text) rest = member name (string text) rest

-- the members of these names, with the texts at their places
abbrev pub members_at : List (List ℕ × ℕ) → List (List ℕ) → Members
members_at [] texts = no_members
members_at (named ∷ rest) texts = with_text named.0 (slice_get texts named.1) (members_at rest texts)

-- what is written for one of them
abbrev pub member_tokens : List ℕ → Option (List ℕ) → List Token
member_tokens name None = []
member_tokens name (Some text) = Token.key name ∷ Token.string text ∷ []
