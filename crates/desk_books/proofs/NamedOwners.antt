-- The households with an order that stands and names a class, found by going back over the orders of each.
use Rattle.std.proofs.Common.{Bool, Contains, List, None, Option, Some, [], ap, arith, cond, false, filter, length, length-take, refl, subst, suc, sym, take, true, zero, ℕ, ◌&&◌, ◌<◌, ◌==◌, ◌||◌, ◌∙◌, ◌∷◌, ◌≡◌, ◌≤◌}
use Rattle.std.proofs.lemmas.Bool.{and_parts, eqb-true}
use Rattle.std.proofs.lemmas.Bool.Decides.{Decides-eqb}
use Rattle.std.proofs.lemmas.Cmp.{nat_eq_equiv}
use Rattle.std.proofs.lemmas.Map.Made.{is_member-Decides, is_member-filter}
use Rattle.std.proofs.Math.Seq.{take-length}
use Rattle.std.specs.List.{list_any, slice_get}
use Rattle.std.specs.Option.{option_map_or, option_or}
use Rattle.std.specs.Prelude.{nat_eq, option_map}
use Rattle.std.specs.Set.{is_member}
use Rattle.agent_events.specs.declared.order.OrderRow.{OrderRow}
use Rattle.agent_events.specs.declared.request.AccountForm.{AccountForm}
use Rattle.desk_books.specs.Naming.{AreNaming, is_naming, names_at, names_somewhere, names_standing}
use Rattle.order_book.proofs.ChainWalk.{got-within, shifted, smaller, some-last}
use Rattle.order_book.specs.LastPlaces.{last_place, last_place_from}
use Rattle.register_laws.specs.CorrectionReach.{names_class}
use Rattle.register_laws.specs.Households.{own_orders}
use Rattle.register_laws.specs.Lawful.{book_behind}
use Rattle.register_machine.specs.journal.Choices.{when}
use Rattle.register_machine.specs.journal.Journals.{Journal}
use Rattle.register_machine.specs.journal.Kinds.{accounts_of}
use Rattle.register_machine.specs.pricing.CorrectedOrders.{orders_of, stands}
use Rattle.standing_orders.proofs.InTurn.{head-same, no-cons, tail-same}
use Rattle.standing_orders.proofs.OwnOrders.{own-by-owner}
use Rattle.standing_orders.specs.ClassHouseholds.{AreNoted, ClassLists, is_listed, listed_under}
use Rattle.standing_orders.specs.Rows.{AreOwners, is_owner}

-- ---- the last order of a household

-- a household without an order names nothing
naming-none : (class household : ℕ) (rows : List OrderRow) (owners : List ℕ) → last_place (is_owner household) owners ≡ None → is_naming class rows owners household ≡ false
naming-none class household [] owners none = refl
naming-none class household (row ∷ rows) [] none = refl
naming-none class household (row ∷ rows) (owner ∷ owners) none =
    by_found (last_place_from 0 (is_owner household) owners) refl (is_owner household owner) refl
    (ap (λ (found : Option ℕ). option_or found (when (is_owner household owner) 0)) (sym (shifted (is_owner household) 0 owners)) ∙ none)
    (naming-none class household rows owners)
  where
    by_found : (found : Option ℕ) → last_place_from 0 (is_owner household) owners ≡ found → (is : Bool) → is_owner household owner ≡ is → option_or (option_map suc found) (when is 0) ≡ None
        → (last_place (is_owner household) owners ≡ None → is_naming class rows owners household ≡ false)
        → ((is_owner household owner && names_standing class row) || is_naming class rows owners household) ≡ false
    by_found (Some n) found_is is own_is e rest = cc
    by_found None found_is true own_is e rest = cc
    by_found None found_is false own_is e rest =
        ap (λ own. (own && names_standing class row) || is_naming class rows owners household) own_is ∙ rest found_is

-- it names the class by its last order, or by one before it
naming-last : (class household : ℕ) (rows : List OrderRow) (owners : List ℕ) (n : ℕ) → last_place (is_owner household) owners ≡ Some n
    → is_naming class rows owners household ≡ (names_at class rows n || is_naming class (take n rows) (take n owners) household)
naming-last class household [] owners n is = sym (none n)
  where
    none : (k : ℕ) → (names_at class [] k || is_naming class (take k []) (take k owners) household) ≡ false
    none zero = refl
    none (suc k) = refl
naming-last class household (row ∷ rows) [] n is = cc
naming-last class household (row ∷ rows) (owner ∷ owners) n is =
    by_found (last_place_from 0 (is_owner household) owners) refl (is_owner household owner) refl
    (ap (λ (found : Option ℕ). option_or found (when (is_owner household owner) 0)) (sym (shifted (is_owner household) 0 owners)) ∙ is)
    (naming-last class household rows owners)
  where
    IsSplit : ℕ → Type 0
    IsSplit k =
        is_naming class (row ∷ rows) (owner ∷ owners) household
        ≡ (names_at class (row ∷ rows) k || is_naming class (take k (row ∷ rows)) (take k (owner ∷ owners)) household)

    turned : (a b c : Bool) → (a || (b || c)) ≡ (b || (a || c))
    turned true true c = refl
    turned true false c = refl
    turned false b c = refl

    none-before : (b : Bool) → (b || false) ≡ b
    none-before true = refl
    none-before false = refl

    by_found : (found : Option ℕ) → last_place_from 0 (is_owner household) owners ≡ found → (own : Bool) → is_owner household owner ≡ own → option_or (option_map suc found) (when own 0) ≡ Some n
        → ((m : ℕ) → last_place (is_owner household) owners ≡ Some m → is_naming class rows owners household ≡ (names_at class rows m || is_naming class (take m rows) (take m owners) household))
        → IsSplit n
    by_found (Some m) found_is own own_is e rest =
        subst IsSplit (some-one e)
        (ap (λ later. (is_owner household owner && names_standing class row) || later) (rest m found_is)
        ∙ turned (is_owner household owner && names_standing class row) (names_at class rows m) (is_naming class (take m rows) (take m owners) household))
      where
        some-one : Some (suc m) ≡ Some n → suc m ≡ n
        some-one h = cc
    by_found None found_is true own_is e rest =
        subst IsSplit (some-one e)
        (ap (λ own. (own && names_standing class row) || is_naming class rows owners household) own_is
        ∙ ap (λ later. names_standing class row || later) (naming-none class household rows owners found_is))
      where
        some-one : Some 0 ≡ Some n → 0 ≡ n
        some-one h = cc
    by_found None found_is false own_is e rest = cc

-- ---- the walk

-- The walk has come to a place: what the household names at all it names before some bound, before which it is its last place.
pub record HasPassed (class household : ℕ) (rows : List OrderRow) (owners : List ℕ) (at : Option ℕ) : Type 0 where
  pub bound : ℕ
  pub last : at ≡ last_place (is_owner household) (take bound owners)
  pub rest : is_naming class rows owners household ≡ is_naming class (take bound rows) (take bound owners) household

short-of-owners : (class household : ℕ) (rows : List OrderRow) (owners : List ℕ) → is_naming class rows owners household ≡ is_naming class (take (length owners) rows) owners household
short-of-owners class household [] owners = none owners
  where
    none : (ys : List ℕ) → false ≡ is_naming class (take (length ys) []) ys household
    none [] = refl
    none (y ∷ ys) = refl
short-of-owners class household (row ∷ rows) [] = refl
short-of-owners class household (row ∷ rows) (owner ∷ owners) =
    ap (λ later. (is_owner household owner && names_standing class row) || later) (short-of-owners class household rows owners)

pub begins-passing : (class household : ℕ) (rows : List OrderRow) (owners : List ℕ) (at : Option ℕ) → at ≡ last_place (is_owner household) owners → HasPassed class household rows owners at
begins-passing class household rows owners at is = record {
  bound = length owners;
  last = is ∙ ap (last_place (is_owner household)) (sym (take-length owners));
  rest =
      short-of-owners class household rows owners
      ∙ ap (λ own. is_naming class (take (length owners) rows) own household) (sym (take-length owners));
}

got-before : {X : Type 0} (bound : ℕ) (xs : List X) (n : ℕ) → n < bound → slice_get (take bound xs) n ≡ slice_get xs n
got-before zero xs n within = absurd (omega (arith, within))
got-before (suc bound) [] n within = refl
got-before (suc bound) (x ∷ xs) zero within = refl
got-before (suc bound) (x ∷ xs) (suc n) within = got-before bound xs n (omega (arith, within))

took-before : {X : Type 0} (bound : ℕ) (xs : List X) (n : ℕ) → n ≤ bound → take n (take bound xs) ≡ take n xs
took-before bound xs zero within = refl
took-before zero xs (suc n) within = absurd (omega (arith, within))
took-before (suc bound) [] (suc n) within = refl
took-before (suc bound) (x ∷ xs) (suc n) within = ap (λ later. x ∷ later) (took-before bound xs n (omega (arith, within)))

-- the order at the place where the walk is
pub record Passes (class household : ℕ) (rows : List OrderRow) (owners : List ℕ) (place : ℕ) : Type 0 where
  pub owner : ℕ
  pub there : slice_get owners place ≡ Some owner
  pub own : is_owner household owner ≡ true
  pub rest : is_naming class rows owners household ≡ (names_at class rows place || is_naming class (take place rows) (take place owners) household)

pub passes : (class household : ℕ) (rows : List OrderRow) (owners : List ℕ) (place : ℕ) → HasPassed class household rows owners (Some place) → Passes class household rows owners place
passes class household rows owners place passed =
    let ends = some-last (is_owner household) (is_owner household) (λ x t. t) (take passed.bound owners) place (sym passed.last) in
    let before : place < passed.bound = omega (arith, ends.within, length-take passed.bound owners) in
    let none_skipped : place ≤ passed.bound = omega (arith, before) in
    record {
      owner = ends.item;
      there = got-within passed.bound owners place ends.item ends.there;
      own = ends.tested;
      rest =
          passed.rest
          ∙ (naming-last class household (take passed.bound rows) (take passed.bound owners) place (sym passed.last)
          ∙ (ap (λ (row : Option OrderRow). option_map_or (names_standing class) row false || is_naming class (take place (take passed.bound rows)) (take place (take passed.bound owners)) household) (got-before passed.bound rows place before)
          ∙ (ap (λ front. names_at class rows place || is_naming class front (take place (take passed.bound owners)) household) (took-before passed.bound rows place none_skipped)
          ∙ ap (λ front. names_at class rows place || is_naming class (take place rows) front household) (took-before passed.bound owners place none_skipped))));
    }

-- the link from the place leads to the household's order before it
link-back : (household : ℕ) (owners : List ℕ) (place owner : ℕ) (next : Option ℕ) → is_owner household owner ≡ true
    → next ≡ last_place (is_owner owner) (take place owners) → next ≡ last_place (is_owner household) (take place owners)
link-back household owners place owner next own is =
    is ∙ ap (λ (h : ℕ). last_place (is_owner h) (take place owners)) (eqb-true owner household own)

pub goes-on : (class household : ℕ) (rows : List OrderRow) (owners : List ℕ) (place : ℕ) (next : Option ℕ)
    → HasPassed class household rows owners (Some place) → names_at class rows place ≡ false
    → ((owner : ℕ) → slice_get owners place ≡ Some owner → next ≡ last_place (is_owner owner) (take place owners))
    → HasPassed class household rows owners next
goes-on class household rows owners place next passed fails linked =
    let here = passes class household rows owners place passed in
    record {
      bound = place;
      last = link-back household owners place here.owner next here.own (linked here.owner here.there);
      rest = here.rest ∙ ap (λ is. is || is_naming class (take place rows) (take place owners) household) fails;
    }

-- the place falls
pub falls-back : (class household : ℕ) (rows : List OrderRow) (owners : List ℕ) (place : ℕ) (next : Option ℕ)
    → HasPassed class household rows owners (Some place)
    → ((owner : ℕ) → slice_get owners place ≡ Some owner → next ≡ last_place (is_owner owner) (take place owners))
    → option_map_or (λ n. suc n) next 0 < suc place
falls-back class household rows owners place next passed linked =
    let here = passes class household rows owners place passed in
    smaller (is_owner household) owners place next (link-back household owners place here.owner next here.own (linked here.owner here.there))

pub ends-found : (class household : ℕ) (rows : List OrderRow) (owners : List ℕ) (place : ℕ)
    → HasPassed class household rows owners (Some place) → names_at class rows place ≡ true → true ≡ is_naming class rows owners household
ends-found class household rows owners place passed names =
    sym
    ((passes class household rows owners place passed).rest
    ∙ ap (λ is. is || is_naming class (take place rows) (take place owners) household) names)

pub ends-passing : (class household : ℕ) (rows : List OrderRow) (owners : List ℕ) → HasPassed class household rows owners None → false ≡ is_naming class rows owners household
ends-passing class household rows owners passed =
    sym (passed.rest ∙ naming-none class household (take passed.bound rows) (take passed.bound owners) (sym passed.last))

-- ---- the households among them

among-named : (accounts : List AccountForm) (household class : ℕ) (rows : List OrderRow) (owners : List ℕ) → AreOwners accounts rows owners
    → is_naming class rows owners household ≡ list_any (names_class class) (filter stands (own_orders accounts household rows))
among-named accounts household class [] owners are = refl
among-named accounts household class (row ∷ rows) [] are = absurd (no-cons are)
among-named accounts household class (row ∷ rows) (owner ∷ owners) are =
    ap (λ later. (is_owner household owner && names_standing class row) || later) (among-named accounts household class rows owners (tail-same are))
    ∙ (by_parts (owner == household) (stands row) (names_class class row) refl refl refl
    ∙ ap (λ is. list_any (names_class class) (filter stands (cond is (row ∷ own_orders accounts household rows) (own_orders accounts household rows)))) (sym (own-by-owner accounts household row owner (head-same are))))
  where
    rest : Bool
    rest = list_any (names_class class) (filter stands (own_orders accounts household rows))

    by_parts : (own stand name : Bool) → owner == household ≡ own → stands row ≡ stand → names_class class row ≡ name
        → ((owner == household && (stands row && names_class class row)) || rest)
        ≡ list_any (names_class class) (filter stands (cond (owner == household) (row ∷ own_orders accounts household rows) (own_orders accounts household rows)))
    by_parts true true true o s n = rw (o, s, n) refl
    by_parts true true false o s n = rw (o, s, n) refl
    by_parts true false name o s n = rw (o, s) refl
    by_parts false stand name o s n = rw o refl

-- ---- the households that are left

-- a household that names the class is listed under it
naming-listed : (classes : ClassLists) (class household : ℕ) (rows : List OrderRow) (owners : List ℕ) → AreNoted classes rows owners
    → is_naming class rows owners household ≡ true → is_listed classes class household ≡ true
naming-listed classes class household [] owners noted naming = cc
naming-listed classes class household (row ∷ rows) [] noted naming = cc
naming-listed classes class household (row ∷ rows) (owner ∷ owners) noted naming =
    by (is_owner household owner && names_standing class row) refl naming (naming-listed classes class household rows owners noted.1)
  where
    own : is_owner household owner ≡ true → names_standing class row ≡ true → is_listed classes class household ≡ true
    own is names =
        subst (λ (h : ℕ). is_listed classes class h ≡ true) (eqb-true owner household is)
        (noted.0 class (and_parts (stands row) (names_class class row) names).1)

    by : (is : Bool) → (is_owner household owner && names_standing class row) ≡ is → (is || is_naming class rows owners household) ≡ true
        → (is_naming class rows owners household ≡ true → is_listed classes class household ≡ true) → is_listed classes class household ≡ true
    by true at all rest =
        let parts = and_parts (is_owner household owner) (names_standing class row) at in
        own parts.0 parts.1
    by false at later rest = rest later

left-among : (test : ℕ → Bool) (listed : List ℕ) (household : ℕ) → is_member nat_eq (filter test listed) household ≡ (is_member nat_eq listed household && test household)
left-among test listed household =
    is_member-filter nat_eq_equiv test household (λ other same. ap test (eqb-true household other same)) listed

pub are-naming : (journal : Journal) (owners : List ℕ) (classes : ClassLists) (class : ℕ) (left households : List ℕ)
    → left ≡ filter (is_naming class (orders_of journal) owners) (listed_under classes class)
    → ((h : ℕ) → Contains left h → Contains households h) → ((h : ℕ) → Contains households h → Contains left h)
    → AreNaming journal owners classes class households
are-naming journal owners classes class left households is keeps adds_none are noted = record {
  own = λ h among. sym (same h) ∙ naming-of h (adds_none h among);
  others = λ h none. by h none (names_somewhere (book_behind journal) h class) refl;
}
  where
    same : (h : ℕ) → is_naming class (orders_of journal) owners h ≡ names_somewhere (book_behind journal) h class
    same h = among-named (accounts_of journal) h class (orders_of journal) owners are

    among-left : (h : ℕ) → is_member nat_eq left h ≡ (is_listed classes class h && is_naming class (orders_of journal) owners h)
    among-left h =
        ap (λ xs. is_member nat_eq xs h) is
        ∙ left-among (is_naming class (orders_of journal) owners) (listed_under classes class) h

    naming-of : (h : ℕ) → Contains left h → is_naming class (orders_of journal) owners h ≡ true
    naming-of h among =
        (and_parts (is_listed classes class h) (is_naming class (orders_of journal) owners h)
        (sym (among-left h) ∙ (is_member-Decides Decides-eqb left h).1 among)).1

    left-is : (h : ℕ) → is_naming class (orders_of journal) owners h ≡ true → Contains left h
    left-is h naming =
        (is_member-Decides Decides-eqb left h).0
        (among-left h
        ∙ (ap (λ listed. listed && is_naming class (orders_of journal) owners h)
        (naming-listed classes class h (orders_of journal) owners noted naming)
        ∙ naming))

    by : (h : ℕ) → (Contains households h → ⊥) → (b : Bool) → names_somewhere (book_behind journal) h class ≡ b → b ≡ false
    by h none true at = absurd (none (keeps h (left-is h (same h ∙ at))))
    by h none false at = refl

-- those that are left are listed
pub left-listed : (owners : List ℕ) (rows : List OrderRow) (classes : ClassLists) (class : ℕ) (left : List ℕ)
    → left ≡ filter (is_naming class rows owners) (listed_under classes class)
    → (h : ℕ) → Contains left h → is_listed classes class h ≡ true
left-listed owners rows classes class left is h among =
    (and_parts (is_listed classes class h) (is_naming class rows owners h)
    (sym (left-among (is_naming class rows owners) (listed_under classes class) h)
    ∙ (sym (ap (λ xs. is_member nat_eq xs h) is) ∙ (is_member-Decides Decides-eqb left h).1 among))).0
