-- The index of names, once one name more is pushed.
use Rattle.std.proofs.Common.{Bool, List, None, Option, Some, [], ap, append-nil, append_assoc, arith, cond, false, length, nat_eq, refl, sym, true, ℕ, ◌++◌, ◌+◌, ◌==◌, ◌∙◌, ◌∷◌, ◌≡◌}
use Rattle.std.proofs.lemmas.Bool.{and_parts, eqb-true}
use Rattle.std.specs.HashMap.{get}
use Rattle.std.specs.List.{position}
use Rattle.std.specs.Option.{option_or}
use Rattle.order_book.proofs.Places.{position-more}
use Rattle.order_book.specs.LastPlaces.{last_place, last_place_from}
use Rattle.order_book.specs.Orders.{KeepsNames, earlier_from, is_named_for, same_name}
use Rattle.order_book.specs.declared.order_index.OrderIndex.{OrderIndex}
use Rattle.order_book.specs.declared.order_index.OrderName.{OrderName}
use Rattle.register_machine.specs.journal.Choices.{when}

last-from : {X : Type 0} (test : X → Bool) (place : ℕ) (xs : List X) (x : X) → last_place_from place test (xs ++ x ∷ []) ≡ cond (test x) (Some (place + length xs)) (last_place_from place test xs)
last-from {X} test place [] x = ap (λ n. cond (test x) (Some n) None) at
  where
    at : place ≡ place + length {A = X} []
    at = omega arith
last-from {X} test place (y ∷ xs) x =
    ap (λ (found : Option ℕ). option_or found (when (test y) place)) (last-from test (place + 1) xs x) ∙ by_test (test x)
  where
    at : place + 1 + length xs ≡ place + length (y ∷ xs)
    at = omega arith

    by_test : (is : Bool) → option_or (cond is (Some (place + 1 + length xs)) (last_place_from (place + 1) test xs)) (when (test y) place) ≡ cond is (Some (place + length (y ∷ xs))) (option_or (last_place_from (place + 1) test xs) (when (test y) place))
    by_test true = ap Some at
    by_test false = refl

pub last-more : {X : Type 0} (test : X → Bool) (xs : List X) (x : X) → last_place test (xs ++ x ∷ []) ≡ cond (test x) (Some (length xs)) (last_place test xs)
last-more test xs x = last-from test 0 xs x ∙ ap (λ n. cond (test x) (Some n) (last_place test xs)) at
  where
    at : 0 + length xs ≡ length xs
    at = omega arith

pub earlier-more : (before names : List OrderName) (name : OrderName) → earlier_from before (names ++ name ∷ []) ≡ earlier_from before names ++ last_place (is_named_for name.account) (before ++ names) ∷ []
earlier-more before [] name = ap (λ all. last_place (is_named_for name.account) all ∷ []) (sym (append-nil before))
earlier-more before (first ∷ names) name =
    ap (λ later. last_place (is_named_for first.account) before ∷ later)
    (earlier-more (before ++ first ∷ []) names name
    ∙ ap (λ all. earlier_from (before ++ first ∷ []) names ++ last_place (is_named_for name.account) all ∷ []) (append_assoc before (first ∷ []) names))

-- one name more
pub name-pushed : (old new : OrderIndex) (names : List OrderName) (name : OrderName) (place : ℕ) (before : Option ℕ)
    → place ≡ length names → KeepsNames old names → before ≡ get nat_eq old.last name.account
    → ((q : OrderName) → get same_name new.places q ≡ option_or (get same_name old.places q) (cond (same_name name q) (Some place) None))
    → ((q : ℕ) → get nat_eq new.last q ≡ cond (nat_eq name.account q) (Some place) (get nat_eq old.last q))
    → new.earlier.items ≡ old.earlier.items ++ before ∷ []
    → KeepsNames new (names ++ name ∷ [])
name-pushed old new names name place before at kept before_is put_first put_last pushed = record {
  places = λ q.
      put_first q
      ∙ (ap (λ (found : Option ℕ). option_or found (cond (same_name name q) (Some place) None)) (kept.places q)
      ∙ (ap (λ n. option_or (position (λ other. same_name other q) names) (cond (same_name name q) (Some n) None)) at
      ∙ sym (position-more (λ other. same_name other q) names name)));
  last = λ q.
      put_last q
      ∙ (ap (λ (found : Option ℕ). cond (nat_eq name.account q) (Some place) found) (kept.last q)
      ∙ (ap (λ n. cond (nat_eq name.account q) (Some n) (last_place (is_named_for q) names)) at
      ∙ sym (last-more (is_named_for q) names name)));
  earlier =
      pushed
      ∙ (ap (λ (all : List (Option ℕ)). all ++ before ∷ []) kept.earlier
      ∙ (ap (λ (found : Option ℕ). earlier_from [] names ++ found ∷ []) (before_is ∙ kept.last name.account)
      ∙ sym (earlier-more [] names name)));
}

-- names that are the same are one
pub one-name : (a b : OrderName) → same_name a b ≡ true → a ≡ b
one-name a b e =
    let both = and_parts (a.account == b.account) (a.ref_no == b.ref_no) e in
    ap (λ own. record { account = own; ref_no = a.ref_no }) (eqb-true a.account b.account both.0)
    ∙ ap (λ own. record { account = b.account; ref_no = own }) (eqb-true a.ref_no b.ref_no both.1)
