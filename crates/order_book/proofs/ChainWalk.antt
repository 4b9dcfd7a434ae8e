-- The orders of an account, from the last one back.
use Rattle.std.proofs.Common.{Bool, List, None, Option, Some, [], ap, arith, false, length, length-take, refl, subst, suc, sym, take, true, zero, ℕ, ◌&&◌, ◌+◌, ◌<◌, ◌==◌, ◌∙◌, ◌∷◌, ◌≡◌, ◌||◌}
use Rattle.std.proofs.lemmas.Bool.{and_parts, eqb-true, false≢true}
use Rattle.std.specs.List.{list_any, slice_get}
use Rattle.std.specs.Option.{option_map_or, option_or}
use Rattle.std.specs.Prelude.{nat_lt, option_map}
use Rattle.agent_events.specs.declared.order.OrderRow.{OrderRow}
use Rattle.order_book.specs.LastPlaces.{is_order_of, last_place, last_place_from}
use Rattle.register_machine.specs.journal.Choices.{when}
use Rattle.register_machine.specs.pricing.CorrectedOrders.{stands}
use Rattle.register_machine.specs.rules.Orders.{buys_class, ordered_before}

pub shifted : {X : Type 0} (test : X → Bool) (place : ℕ) (xs : List X) → last_place_from (place + 1) test xs ≡ option_map suc (last_place_from place test xs)
shifted test place [] = refl
shifted {X} test place (x ∷ xs) =
    ap (λ (found : Option ℕ). option_or found (when (test x) (place + 1))) (shifted test (place + 1) xs) ∙ by_parts (last_place_from (place + 1) test xs) (test x)
  where
    at : place + 1 ≡ suc place
    at = omega arith

    by_parts : (found : Option ℕ) (is : Bool) → option_or (option_map suc found) (when is (place + 1)) ≡ option_map suc (option_or found (when is place))
    by_parts (Some n) is = refl
    by_parts None true = ap Some at
    by_parts None false = refl

-- none passes where there is no last place
pub none-last : {X : Type 0} (test passes : X → Bool) → ((x : X) → passes x ≡ true → test x ≡ true) → (xs : List X) → last_place test xs ≡ None → list_any passes xs ≡ false
none-last test passes within [] none = refl
none-last {X} test passes within (x ∷ xs) none =
    by_found (last_place_from 0 test xs) refl (test x) refl (ap (λ (found : Option ℕ). option_or found (when (test x) 0)) (sym (shifted test 0 xs)) ∙ none) (none-last test passes within xs)
  where
    fails : test x ≡ false → (is : Bool) → passes x ≡ is → is ≡ false
    fails e false p = refl
    fails e true p = absurd (false≢true (sym e ∙ within x p))

    by_found : (found : Option ℕ) → last_place_from 0 test xs ≡ found → (is : Bool) → test x ≡ is → option_or (option_map suc found) (when is 0) ≡ None → (last_place test xs ≡ None → list_any passes xs ≡ false) → (passes x || list_any passes xs) ≡ false
    by_found (Some n) found_is any test_is e rest = cc
    by_found None found_is true test_is e rest = cc
    by_found None found_is false test_is e rest =
        ap (λ own. own || list_any passes xs) (fails test_is (passes x) refl) ∙ rest found_is

-- What passes is at the last place, where an item stands that is tested for, or before it.
pub record EndsAt {X : Type 0} (test passes : X → Bool) (xs : List X) (n : ℕ) : Type 0 where
  pub item : X
  pub there : slice_get xs n ≡ Some item
  pub tested : test item ≡ true
  pub within : n < length xs
  pub rest : list_any passes xs ≡ (passes item || list_any passes (take n xs))

pub some-last : {X : Type 0} (test passes : X → Bool) → ((x : X) → passes x ≡ true → test x ≡ true) → (xs : List X) (n : ℕ) → last_place test xs ≡ Some n → EndsAt test passes xs n
some-last test passes within [] n is = cc
some-last {X} test passes within (x ∷ xs) n is =
    by_found (last_place_from 0 test xs) refl (test x) refl (ap (λ (found : Option ℕ). option_or found (when (test x) 0)) (sym (shifted test 0 xs)) ∙ is) (some-last test passes within xs)
  where
    turned : (a b c : Bool) → (a || (b || c)) ≡ (b || (a || c))
    turned true true c = refl
    turned true false c = refl
    turned false b c = refl

    by_found : (found : Option ℕ) → last_place_from 0 test xs ≡ found → (is : Bool) → test x ≡ is → option_or (option_map suc found) (when is 0) ≡ Some n → ((m : ℕ) → last_place test xs ≡ Some m → EndsAt test passes xs m) → EndsAt test passes (x ∷ xs) n
    by_found (Some m) found_is any test_is e rest =
        subst (λ (k : ℕ). EndsAt test passes (x ∷ xs) k) (some-one e)
        (let later = rest m found_is in
        record { item = later.item; there = later.there; tested = later.tested; within = omega (arith, later.within); rest = ap (λ found. passes x || found) later.rest ∙ turned (passes x) (passes later.item) (list_any passes (take m xs)) })
      where
        some-one : Some (suc m) ≡ Some n → suc m ≡ n
        some-one h = cc
    by_found None found_is true test_is e rest =
        subst (λ (k : ℕ). EndsAt test passes (x ∷ xs) k) (some-one e)
        (record { item = x; there = refl; tested = test_is; within = omega arith; rest = ap (λ found. passes x || found) (none-last test passes within xs found_is) })
      where
        some-one : Some 0 ≡ Some n → 0 ≡ n
        some-one h = cc
    by_found None found_is false test_is e rest = cc

-- ---- within the first items

pub got-within : {X : Type 0} (bound : ℕ) (xs : List X) (n : ℕ) (x : X) → slice_get (take bound xs) n ≡ Some x → slice_get xs n ≡ Some x
got-within zero xs n x is = cc
got-within (suc bound) [] n x is = cc
got-within (suc bound) (y ∷ xs) zero x is = is
got-within (suc bound) (y ∷ xs) (suc n) x is = got-within bound xs n x is

pub took-within : {X : Type 0} (bound : ℕ) (xs : List X) (n : ℕ) → n < length (take bound xs) → take n (take bound xs) ≡ take n xs
took-within zero xs n within = absurd (omega arith)
took-within (suc bound) [] n within = absurd (omega arith)
took-within (suc bound) (y ∷ xs) zero within = refl
took-within (suc bound) (y ∷ xs) (suc n) within = ap (λ later. y ∷ later) (took-within bound xs n (omega arith))

-- The walk has come to a place: what passes at all passes before some bound, before which it is the last place.
pub record HasCome {X : Type 0} (test passes : X → Bool) (xs : List X) (at : Option ℕ) : Type 0 where
  pub bound : ℕ
  pub last : at ≡ last_place test (take bound xs)
  pub rest : list_any passes xs ≡ list_any passes (take bound xs)

-- one step of the walk
pub record Steps {X : Type 0} (test passes : X → Bool) (xs : List X) (index : ℕ) : Type 0 where
  pub item : X
  pub there : slice_get xs index ≡ Some item
  pub tested : test item ≡ true
  pub rest : list_any passes xs ≡ (passes item || list_any passes (take index xs))

pub steps : {X : Type 0} (test passes : X → Bool) → ((x : X) → passes x ≡ true → test x ≡ true) → (xs : List X) (index : ℕ) → HasCome test passes xs (Some index) → Steps test passes xs index
steps test passes within xs index come =
    let ends = some-last test passes within (take come.bound xs) index (sym come.last) in
    record {
      item = ends.item;
      there = got-within come.bound xs index ends.item ends.there;
      tested = ends.tested;
      rest = come.rest ∙ (ends.rest ∙ ap (λ items. passes ends.item || list_any passes items) (took-within come.bound xs index ends.within));
    }

pub begins-walk : {X : Type 0} (test passes : X → Bool) (xs : List X) (at : Option ℕ) → at ≡ last_place test xs → HasCome test passes xs at
begins-walk {X} test passes xs at is = record {
  bound = length xs;
  last = is ∙ ap (last_place test) (sym (whole xs));
  rest = ap (list_any passes) (sym (whole xs));
}
  where
    whole : (ys : List X) → take (length ys) ys ≡ ys
    whole [] = refl
    whole (y ∷ ys) = ap (λ later. y ∷ later) (whole ys)

pub goes-on : {X : Type 0} (test passes : X → Bool) (xs : List X) (index : ℕ) (at : Option ℕ) → (step : Steps test passes xs index) → passes step.item ≡ false → at ≡ last_place test (take index xs) → HasCome test passes xs at
goes-on test passes xs index at step fails is = record {
  bound = index;
  last = is;
  rest = step.rest ∙ ap (λ own. own || list_any passes (take index xs)) fails;
}

pub ends-walk : {X : Type 0} (test passes : X → Bool) → ((x : X) → passes x ≡ true → test x ≡ true) → (xs : List X) → HasCome test passes xs None → list_any passes xs ≡ false
ends-walk test passes within xs come = come.rest ∙ none-last test passes within (take come.bound xs) (sym come.last)

-- the place falls
pub falls : {X : Type 0} (test : X → Bool) (xs : List X) (index next : ℕ) → last_place test (take index xs) ≡ Some next → next < index
falls test xs index next is = omega (arith, (some-last test test (λ x t. t) (take index xs) next is).within, length-take index xs)

pub smaller : {X : Type 0} (test : X → Bool) (xs : List X) (index : ℕ) (next : Option ℕ) → next ≡ last_place test (take index xs) → option_map_or (λ n. suc n) next 0 < suc index
smaller test xs index None is = omega arith
smaller test xs index (Some k) is = omega (arith, falls test xs index k (sym is))

-- ---- over the orders of an account

pub of-account : (row : OrderRow) (class : ℕ) (other : OrderRow) → ordered_before row class other ≡ true → is_order_of row.order.account other ≡ true
of-account row class other before =
    (and_parts (other.order.account == row.order.account) (nat_lt other.place row.place && (stands other && buys_class class other.order.body)) before).0

pub same-account : (account : ℕ) (rows : List OrderRow) (index : ℕ) (item : OrderRow) (next : Option ℕ) → is_order_of account item ≡ true → next ≡ last_place (is_order_of item.order.account) (take index rows) → next ≡ last_place (is_order_of account) (take index rows)
same-account account rows index item next tested is =
    is ∙ ap (λ own. last_place (is_order_of own) (take index rows)) (eqb-true item.order.account account tested)

pub item-passes : (passes : OrderRow → Bool) (rows shown : List OrderRow) (index : ℕ) (item : OrderRow) (got : Option OrderRow) (result : Bool)
    → result ≡ option_map_or passes got false → got ≡ slice_get shown index → shown ≡ rows → slice_get rows index ≡ Some item → result ≡ passes item
item-passes passes rows shown index item got result result_is got_is shown_is there =
    result_is ∙ ap (λ (found : Option OrderRow). option_map_or passes found false) (got_is ∙ (ap (λ all. slice_get all index) shown_is ∙ there))
