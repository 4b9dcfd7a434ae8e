-- The path of a look at an account has four parts, and the last of them is digits alone.
use Rattle.std.proofs.Common.{◌≡◌, ◌≤◌, ℕ, ◌+◌, Bool, true, false, not, cond, eqb, List, [], ◌∷◌, ◌++◌, length, take, drop, Option, Some, None, codes, refl, sym, ap, ◌∙◌, arith}
use Rattle.std.specs.Prelude.{IfSome, bytes_eq}
use Rattle.std.specs.Char.{is_ascii_digit}
use Rattle.std.specs.List.{list_all, onto_first, position_or_len, slice_split}
use Rattle.std.proofs.lemmas.Bool.{and_parts, eqb-true, true≢false}
use Rattle.std.proofs.lemmas.List.{take-append-drop, take_all}
use Rattle.std.proofs.lemmas.List.Splits.{slice_split-cons_no}
use Rattle.std.proofs.lemmas.Slice.Eq.{bytes_eq-Decides}
use Rattle.money_units.specs.Texts.{is_whole}
use Rattle.agent_events.specs.Fields.{identifier}
use Rattle.agent_events.specs.declared.request.Request.{Request}
use Rattle.agent_http.specs.Calls.{answered_by, is_filled, is_question, is_slash, parts_of, path_of, target_answer}
use Rattle.agent_http.specs.declared.calls.CallAsk.{CallAsk}

-- no digit is this byte
no-digit : (other byte : ℕ) → is_ascii_digit other ≡ false → is_ascii_digit byte ≡ true → eqb byte other ≡ false
no-digit other byte none digit = by (eqb byte other) refl
  where
    by : (same : Bool) → eqb byte other ≡ same → eqb byte other ≡ false
    by false e = e
    by true e = absurd (true≢false (sym digit ∙ ap is_ascii_digit (eqb-true byte other e) ∙ none))

-- digits are one part
one-part : (text : List ℕ) → list_all is_ascii_digit text ≡ true → slice_split is_slash text ≡ text ∷ []
one-part [] digits = refl
one-part (byte ∷ text) digits =
    let parts = and_parts (is_ascii_digit byte) (list_all is_ascii_digit text) digits in
    slice_split-cons_no is_slash byte text (no-digit 47 byte refl parts.0) ∙ ap (onto_first byte) (one-part text parts.1)

-- and no question mark stands among them
no-question : (text : List ℕ) → list_all is_ascii_digit text ≡ true → position_or_len is_question text ≡ length text
no-question [] digits = refl
no-question (byte ∷ text) digits =
    let parts = and_parts (is_ascii_digit byte) (list_all is_ascii_digit text) digits in
    let rest : position_or_len is_question text ≡ length text = no-question text parts.1 in
    ap (λ b. cond (not b) (1 + position_or_len is_question text) 0) (no-digit 63 byte refl parts.0) ∙ (omega arith)

path-whole : (account : List ℕ) → list_all is_ascii_digit account ≡ true → path_of (codes "/v1/show/" ++ account) ≡ codes "/v1/show/" ++ account
path-whole account digits =
    let rest : position_or_len is_question account ≡ length account = no-question account digits in
    let all : length (codes "/v1/show/" ++ account) ≤ position_or_len is_question (codes "/v1/show/" ++ account) = omega arith in
    take_all (position_or_len is_question (codes "/v1/show/" ++ account)) (codes "/v1/show/" ++ account) all

four-parts : (account : List ℕ) → list_all is_ascii_digit account ≡ true
    → parts_of (codes "/v1/show/" ++ account) ≡ [] ∷ codes "v1" ∷ codes "show" ∷ account ∷ []
four-parts account digits =
    ap (λ parts. [] ∷ onto_first 118 (onto_first 49 ([] ∷ onto_first 115 (onto_first 104 (onto_first 111 (onto_first 119 ([] ∷ parts)))))))
    (one-part account digits)

-- an account's number is digits, and at least one
is-number : (text : List ℕ) (account : ℕ) → identifier text ≡ Some account → is_whole 19 text ≡ true
is-number text account is = by (is_whole 19 text) refl
  where
    by : (whole : Bool) → is_whole 19 text ≡ whole → is_whole 19 text ≡ true
    by true e = e
    by false e = let none : identifier text ≡ None = rw e refl in absurd (grind arith)

answered-show : (text method : List ℕ) (account : ℕ) (size : Option ℕ) (body : List ℕ) → is_filled text ≡ true → bytes_eq method (codes "GET") ≡ true
    → identifier text ≡ Some account
    → answered_by ([] ∷ codes "v1" ∷ codes "show" ∷ text ∷ []) method size body ≡ CallAsk.Request (Request.Show account)
answered-show text method account size body filled get is = rw (filled, get, is) refl

shows-account : (target method : List ℕ) (account : ℕ) → bytes_eq (take 9 target) (codes "/v1/show/") ≡ true
    → bytes_eq method (codes "GET") ≡ true → identifier (drop 9 target) ≡ Some account
    → (size : Option ℕ) (body : List ℕ) → target_answer target method size body ≡ CallAsk.Request (Request.Show account)
shows-account target method account path get is size body =
    let text = drop 9 target in
    let front : take 9 target ≡ codes "/v1/show/" = (bytes_eq-Decides (take 9 target) (codes "/v1/show/")).0 path in
    let whole : target ≡ codes "/v1/show/" ++ text = sym (take-append-drop 9 target) ∙ ap (λ first. first ++ text) front in
    let few = and_parts _ _ (and_parts _ _ (is-number text account is)).0 in
    let number = and_parts (list_all is_ascii_digit text) (is_filled text) few.0 in
    ap (λ t. target_answer t method size body) whole
    ∙ ap (λ path. answered_by (parts_of path) method size body) (path-whole text number.0)
    ∙ ap (λ parts. answered_by parts method size body) (four-parts text number.0)
    ∙ answered-show text method account size body number.1 get is

pub shown : (target method : List ℕ) (found : Option ℕ) → bytes_eq (take 9 target) (codes "/v1/show/") ≡ true → bytes_eq method (codes "GET") ≡ true
    → found ≡ identifier (drop 9 target)
    → IfSome found (λ account. (size : Option ℕ) (body : List ℕ) → target_answer target method size body ≡ CallAsk.Request (Request.Show account))
shown target method None path get is = tt
shown target method (Some account) path get is = shows-account target method account path get (sym is)
