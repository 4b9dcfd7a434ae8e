-- The places of a household's orders, from the last one back.
use Rattle.std.proofs.Common.{All, Bool, List, None, Option, Some, [], ap, append-nil, append_assoc, arith, cond, false, length, length-take, map, nat_le, refl, reverse, subst, suc, sym, take, true, ℕ, ◌++◌, ◌+◌, ◌<◌, ◌∙◌, ◌∷◌, ◌≡◌}
use Rattle.std.proofs.lemmas.Bool.{eqb-true, leb-false, lt-leb}
use Rattle.std.proofs.lemmas.List.Elements.{All-cons, All-nil, All-push, All-weaker, filter-append}
use Rattle.std.proofs.lemmas.List.{map-append, reverse-append}
use Rattle.std.proofs.Math.Seq.{take-length}
use Rattle.std.specs.List.{slice_get}
use Rattle.std.specs.Option.{option_map_or, option_or}
use Rattle.std.specs.Prelude.{option_map}
use Rattle.order_book.proofs.ChainWalk.{got-within, shifted, some-last, took-within}
use Rattle.order_book.specs.LastPlaces.{last_place, last_place_from}
use Rattle.register_laws.proofs.ListParts.{filter-none}
use Rattle.register_machine.specs.journal.Choices.{when}
use Rattle.standing_orders.specs.Places.{not_before, places_from, places_where, unless_before}
use Rattle.standing_orders.specs.Rows.{is_owner}

places-shifted : {X : Type 0} (test : X → Bool) (place : ℕ) (xs : List X) → places_from (place + 1) test xs ≡ map suc (places_from place test xs)
places-shifted test place [] = refl
places-shifted {X} test place (x ∷ xs) =
    ap (λ back. cond (test x) ((place + 1) ∷ []) [] ++ back) (places-shifted test (place + 1) xs) ∙ by_test (test x)
  where
    at : place + 1 ≡ suc place
    at = omega arith

    by_test : (is : Bool) → cond is ((place + 1) ∷ []) [] ++ map suc (places_from (place + 1) test xs) ≡ map suc (cond is (place ∷ []) [] ++ places_from (place + 1) test xs)
    by_test true = ap (λ n. n ∷ map suc (places_from (place + 1) test xs)) at
    by_test false = refl

pub last-none : {X : Type 0} (test : X → Bool) (xs : List X) → last_place test xs ≡ None → places_where test xs ≡ []
last-none test [] none = refl
last-none {X} test (x ∷ xs) none =
    by_found (last_place_from 0 test xs) refl (test x) (ap (λ (found : Option ℕ). option_or found (when (test x) 0)) (sym (shifted test 0 xs)) ∙ none) (last-none test xs)
  where
    by_found : (found : Option ℕ) → last_place_from 0 test xs ≡ found → (is : Bool) → option_or (option_map suc found) (when is 0) ≡ None → (last_place test xs ≡ None → places_where test xs ≡ []) → cond is (0 ∷ []) [] ++ places_from 1 test xs ≡ []
    by_found (Some n) found_is is e rest = cc
    by_found None found_is true e rest = cc
    by_found None found_is false e rest = places-shifted test 0 xs ∙ ap (map suc) (rest found_is)

pub last-split : {X : Type 0} (test : X → Bool) (xs : List X) (n : ℕ) → last_place test xs ≡ Some n → places_where test xs ≡ places_where test (take n xs) ++ n ∷ []
last-split test [] n is = cc
last-split {X} test (x ∷ xs) n is =
    by_found (last_place_from 0 test xs) refl (test x) refl (ap (λ (found : Option ℕ). option_or found (when (test x) 0)) (sym (shifted test 0 xs)) ∙ is) (last-split test xs)
  where
    by_found : (found : Option ℕ) → last_place_from 0 test xs ≡ found → (own : Bool) → test x ≡ own → option_or (option_map suc found) (when own 0) ≡ Some n → ((m : ℕ) → last_place test xs ≡ Some m → places_where test xs ≡ places_where test (take m xs) ++ m ∷ []) → places_where test (x ∷ xs) ≡ places_where test (take n (x ∷ xs)) ++ n ∷ []
    by_found (Some m) found_is own own_is e rest =
        subst (λ (k : ℕ). places_where test (x ∷ xs) ≡ places_where test (take k (x ∷ xs)) ++ k ∷ []) (some-one e)
        (ap (λ back. cond (test x) (0 ∷ []) [] ++ back)
        (places-shifted test 0 xs
        ∙ (ap (map suc) (rest m found_is)
        ∙ (map-append suc (places_where test (take m xs)) (m ∷ [])
        ∙ ap (λ front. front ++ suc m ∷ []) (sym (places-shifted test 0 (take m xs))))))
        ∙ sym (append_assoc (cond (test x) (0 ∷ []) []) (places_from 1 test (take m xs)) (suc m ∷ [])))
      where
        some-one : Some (suc m) ≡ Some n → suc m ≡ n
        some-one h = cc
    by_found None found_is true own_is e rest =
        subst (λ (k : ℕ). places_where test (x ∷ xs) ≡ places_where test (take k (x ∷ xs)) ++ k ∷ []) (some-one e)
        (ap (λ is. cond is (0 ∷ []) [] ++ places_from 1 test xs) own_is
        ∙ ap (λ back. 0 ∷ back) (places-shifted test 0 xs ∙ ap (map suc) (last-none test xs found_is)))
      where
        some-one : Some 0 ≡ Some n → 0 ≡ n
        some-one h = cc
    by_found None found_is false own_is e rest = cc

-- ---- the places from one on

-- each place is that of an item
below : {X : Type 0} (test : X → Bool) (before : ℕ) (xs : List X) → All (λ (place : ℕ). place < before + length xs) (places_from before test xs)
below test before [] = All-nil (λ (place : ℕ). place < before + 0)
below {X} test before (x ∷ xs) =
    by (test x) (All-weaker (λ (place : ℕ). place < before + 1 + length xs) (λ (place : ℕ). place < before + suc (length xs)) (λ place short. omega (arith, short)) (places_from (before + 1) test xs) (below test (before + 1) xs))
  where
    by : (is : Bool) → All (λ (place : ℕ). place < before + suc (length xs)) (places_from (before + 1) test xs) → All (λ (place : ℕ). place < before + suc (length xs)) (cond is (before ∷ []) [] ++ places_from (before + 1) test xs)
    by true later = All-cons (λ (place : ℕ). place < before + suc (length xs)) before (places_from (before + 1) test xs) (omega arith) later
    by false later = later

-- where the last one is before another place, all are
early-none : (first : ℕ) (test : ℕ → Bool) (xs : List ℕ) (k : ℕ) → last_place test xs ≡ Some k → k < first → not_before first (places_where test xs) ≡ []
early-none first test xs k is short =
    filter-none (nat_le first) (places_where test xs)
    (subst (All (λ (place : ℕ). nat_le first place ≡ false)) (sym (last-split test xs k is))
    (All-push (λ (place : ℕ). nat_le first place ≡ false) (places_where test (take k xs)) k
    (All-weaker (λ (place : ℕ). place < 0 + length (take k xs)) (λ (place : ℕ). nat_le first place ≡ false) (λ place small. lt-leb first place (let few = length-take k xs in omega (arith, small, few, short))) (places_where test (take k xs)) (below test 0 (take k xs)))
    (lt-leb first k short)))

-- what is left of a place
pub record IsLeft (first place : ℕ) (found : Option ℕ) : Type 0 where
  pub is : found ≡ Some place
  pub late : nat_le first place ≡ true

left-of : (first place : ℕ) (found : Option ℕ) → unless_before first found ≡ Some place → IsLeft first place found
left-of first place None is = cc
left-of first place (Some k) is = by (nat_le first k) refl is
  where
    by : (late : Bool) → nat_le first k ≡ late → when late k ≡ Some place → IsLeft first place (Some k)
    by true e is = record { is = is; late = ap (nat_le first) (sym (some-same is)) ∙ e }
      where
        some-same : Some k ≡ Some place → k ≡ place
        some-same h = cc
    by false e is = cc

none-left : (first : ℕ) (test : ℕ → Bool) (xs : List ℕ) → unless_before first (last_place test xs) ≡ None → not_before first (places_where test xs) ≡ []
none-left first test xs is = by (last_place test xs) refl is
  where
    by : (found : Option ℕ) → last_place test xs ≡ found → unless_before first found ≡ None → not_before first (places_where test xs) ≡ []
    by None e is = ap (not_before first) (last-none test xs e)
    by (Some k) e is = by_late (nat_le first k) refl is
      where
        by_late : (late : Bool) → nat_le first k ≡ late → when late k ≡ None → not_before first (places_where test xs) ≡ []
        by_late true late is = cc
        by_late false late is = early-none first test xs k e (leb-false first k late)

-- ---- the walk

-- The walk has come to a place: the places before some bound are to come, and those behind it are in the list, the last first.
pub record HasWalked (first : ℕ) (household_test : ℕ → Bool) (owners places : List ℕ) (at : Option ℕ) : Type 0 where
  pub bound : ℕ
  pub last : at ≡ unless_before first (last_place household_test (take bound owners))
  pub rest : not_before first (places_where household_test owners) ≡ not_before first (places_where household_test (take bound owners)) ++ reverse places

pub begins-walk : (first : ℕ) (test : ℕ → Bool) (owners : List ℕ) (at : Option ℕ) → at ≡ unless_before first (last_place test owners) → HasWalked first test owners [] at
begins-walk first test owners at is = record {
  bound = length owners;
  last = is ∙ ap (λ all. unless_before first (last_place test all)) (sym (take-length owners));
  rest = ap (λ all. not_before first (places_where test all)) (sym (take-length owners)) ∙ sym (append-nil (not_before first (places_where test (take (length owners) owners))));
}

pub ends-walk : (first : ℕ) (test : ℕ → Bool) (owners places : List ℕ) → HasWalked first test owners places None → reverse places ≡ not_before first (places_where test owners)
ends-walk first test owners places walked =
    sym (walked.rest ∙ ap (λ front. front ++ reverse places) (none-left first test (take walked.bound owners) (sym walked.last)))

-- the order at the place where the walk is
pub record StandsAt (test : ℕ → Bool) (owners : List ℕ) (bound place : ℕ) : Type 0 where
  pub owner : ℕ
  pub there : slice_get owners place ≡ Some owner
  pub tested : test owner ≡ true
  pub within : place < length (take bound owners)

pub stands-at : (first : ℕ) (test : ℕ → Bool) (owners places : List ℕ) (place : ℕ) → (walked : HasWalked first test owners places (Some place)) → StandsAt test owners walked.bound place
stands-at first test owners places place walked =
    let left = left-of first place (last_place test (take walked.bound owners)) (sym walked.last) in
    let ends = some-last test test (λ x t. t) (take walked.bound owners) place left.is in
    record {
      owner = ends.item;
      there = got-within walked.bound owners place ends.item ends.there;
      tested = ends.tested;
      within = ends.within;
    }

pub goes-back : (first : ℕ) (test : ℕ → Bool) (owners places : List ℕ) (place : ℕ) (next : Option ℕ) → HasWalked first test owners places (Some place) → next ≡ unless_before first (last_place test (take place owners)) → HasWalked first test owners (places ++ place ∷ []) next
goes-back first test owners places place next walked is =
    let left = left-of first place (last_place test (take walked.bound owners)) (sym walked.last) in
    record {
      bound = place;
      last = is;
      rest =
          walked.rest
          ∙ (ap (λ front. front ++ reverse places)
          (ap (not_before first)
          (last-split test (take walked.bound owners) place left.is
          ∙ ap (λ front. places_where test front ++ place ∷ []) (took-within walked.bound owners place (stands-at first test owners places place walked).within))
          ∙ (filter-append (nat_le first) (places_where test (take place owners)) (place ∷ [])
          ∙ ap (λ late. not_before first (places_where test (take place owners)) ++ cond late (place ∷ []) []) left.late))
          ∙ (append_assoc (not_before first (places_where test (take place owners))) (place ∷ []) (reverse places)
          ∙ ap (λ back. not_before first (places_where test (take place owners)) ++ back) (sym (reverse-append places (place ∷ [])))));
    }

-- the place falls
pub falls-back : (first : ℕ) (test : ℕ → Bool) (owners : List ℕ) (place : ℕ) (next : Option ℕ) → next ≡ unless_before first (last_place test (take place owners)) → option_map_or (λ n. suc n) next 0 < suc place
falls-back first test owners place None is = omega arith
falls-back first test owners place (Some k) is =
    let left = left-of first k (last_place test (take place owners)) (sym is) in
    omega (arith, (some-last test test (λ x t. t) (take place owners) k left.is).within, length-take place owners)

-- the link from the place where the walk is leads to the household's order before it
pub next-own : (first household : ℕ) (owners places : List ℕ) (place : ℕ) (next : Option ℕ) → HasWalked first (is_owner household) owners places (Some place) → ((owner : ℕ) → slice_get owners place ≡ Some owner → next ≡ last_place (is_owner owner) (take place owners)) → next ≡ last_place (is_owner household) (take place owners)
next-own first household owners places place next walked linked =
    let here = stands-at first (is_owner household) owners places place walked in
    linked here.owner here.there ∙ ap (λ own. last_place (is_owner own) (take place owners)) (eqb-true here.owner household here.tested)
