-- What holds of each row of a lawful table of loads.
use Rattle.std.proofs.Common.{◌≡◌, ℕ, zero, suc, ◌+◌, ◌<◌, ◌≤◌, Bool, false, List, [], ◌∷◌, length, Option, Some, None, slice_get, arith, subst}
use Rattle.std.specs.Prelude.{All}
use Rattle.std.proofs.lemmas.Bool.Decides.{nat_tests}
use Rattle.std.proofs.lemmas.List.Elements.{All-cons}
use Rattle.class_terms.specs.declared.lists.Bracket.{Bracket}
use Rattle.class_terms.specs.Tables.{first_broken, breaks_table, front_fault, breaks_schedule, deferred_fault}

-- where no item is broken, the first may follow what stands before it, and none is broken behind it
pub first-follows : {X : Type 0} (breaks : Option X → X → Bool) (place : ℕ) (before : Option X) (x : X) (xs : List X)
    → first_broken breaks place before (x ∷ xs) ≡ None → breaks before x ≡ false
first-follows breaks place before x xs h = grind (arith, nat_tests)

pub others-follow : {X : Type 0} (breaks : Option X → X → Bool) (place : ℕ) (before : Option X) (x : X) (xs : List X)
    → first_broken breaks place before (x ∷ xs) ≡ None → first_broken breaks (place + 1) (Some x) xs ≡ None
others-follow breaks place before x xs h = grind (arith, nat_tests)

-- a relation of each item to the next that goes on from item to item
pub record IsOrder {X : Type 0} (breaks : Option X → X → Bool) (R : X → X → Type 0) : Type 0 where
  pub next : (a b : X) → breaks (Some a) b ≡ false → R a b
  pub onward : (a b c : X) → R a b → R b c → R a c

-- each item behind `before` is in that relation to it
pub later-follows : {X : Type 0} (breaks : Option X → X → Bool) (R : X → X → Type 0) → IsOrder breaks R
    → (place : ℕ) (before : X) (xs : List X) (i : ℕ) (y : X) → first_broken breaks place (Some before) xs ≡ None
    → slice_get xs i ≡ Some y → R before y
later-follows breaks R order place before [] i y h found = cc
later-follows breaks R order place before (x ∷ xs) zero y h found =
    let same : x ≡ y = cc in subst (λ z. R before z) same (order.next before x (first-follows breaks place (Some before) x xs h))
later-follows breaks R order place before (x ∷ xs) (suc i) y h found =
    order.onward before x y (order.next before x (first-follows breaks place (Some before) x xs h))
    (later-follows breaks R order (place + 1) x xs i y (others-follow breaks place (Some before) x xs h) found)

-- and so is each later item to each earlier one
pub each-follows : {X : Type 0} (breaks : Option X → X → Bool) (R : X → X → Type 0) → IsOrder breaks R
    → (place : ℕ) (before : Option X) (xs : List X) (i j : ℕ) (y z : X) → first_broken breaks place before xs ≡ None
    → i < j → slice_get xs i ≡ Some y → slice_get xs j ≡ Some z → R y z
each-follows breaks R order place before [] i j y z h less first second = cc
each-follows breaks R order place before (x ∷ xs) i zero y z h less first second = absurd (omega arith)
each-follows breaks R order place before (x ∷ xs) zero (suc j) y z h less first second =
    let same : x ≡ y = cc in
    subst (λ w. R w z) same (later-follows breaks R order (place + 1) x xs j z (others-follow breaks place before x xs h) second)
each-follows breaks R order place before (x ∷ xs) (suc i) (suc j) y z h less first second =
    each-follows breaks R order (place + 1) (Some x) xs i j y z (others-follow breaks place before x xs h) (omega arith) first second

-- each item may follow some item or none
pub each-stands : {X : Type 0} (breaks : Option X → X → Bool) (P : X → Type 0)
    → ((before : Option X) (x : X) → breaks before x ≡ false → P x)
    → (place : ℕ) (before : Option X) (xs : List X) (i : ℕ) (y : X) → first_broken breaks place before xs ≡ None
    → slice_get xs i ≡ Some y → P y
each-stands breaks P holds place before [] i y h found = cc
each-stands breaks P holds place before (x ∷ xs) zero y h found =
    let same : x ≡ y = cc in subst P same (holds before x (first-follows breaks place before x xs h))
each-stands breaks P holds place before (x ∷ xs) (suc i) y h found =
    each-stands breaks P holds (place + 1) (Some x) xs i y (others-follow breaks place before x xs h) found

-- a later row of a table of front-end loads: a greater floor and no greater rate
pub record Follows (before row : Bracket) : Type 0 where
  pub floor : before.floor < row.floor
  pub rate : row.rate ≤ before.rate

pub table-order : IsOrder breaks_table Follows
table-order = record {
  next = λ a b h. record { floor = grind (arith, nat_tests); rate = grind (arith, nat_tests) };
  onward = λ a b c one two. record { floor = omega arith; rate = omega arith };
}

pub table-ceiling : (before : Option Bracket) (row : Bracket) → breaks_table before row ≡ false → row.rate ≤ 850
table-ceiling None row h = grind (arith, nat_tests)
table-ceiling (Some b) row h = grind (arith, nat_tests)

-- a later rate of a schedule of deferred loads is no greater
pub schedule-order : IsOrder breaks_schedule (λ before rate. rate ≤ before)
schedule-order = record {
  next = λ a b h. grind (arith, nat_tests);
  onward = λ a b c one two. omega arith;
}

pub schedule-ceiling : (before : Option ℕ) (rate : ℕ) → breaks_schedule before rate ≡ false → rate ≤ 850
schedule-ceiling None rate h = grind (arith, nat_tests)
schedule-ceiling (Some b) rate h = grind (arith, nat_tests)

-- what a table without a fault has: rows that stand, and so many
pub record HasRows (rows : List Bracket) : Type 0 where
  pub least : 1 ≤ length rows
  pub most : length rows ≤ 16
  pub stands : first_broken breaks_table 0 None rows ≡ None

pub rows-lawful : (rows : List Bracket) → front_fault rows ≡ None → HasRows rows
rows-lawful rows h = record { least = grind (arith, nat_tests); most = grind (arith, nat_tests); stands = grind (arith, nat_tests) }

pub record HasRates (rates : List ℕ) : Type 0 where
  pub most : length rates ≤ 10
  pub stands : first_broken breaks_schedule 0 None rates ≡ None

pub rates-lawful : (rates : List ℕ) → deferred_fault rates ≡ None → HasRates rates
rates-lawful rates h = record { most = grind (arith, nat_tests); stands = grind (arith, nat_tests) }

-- the first row of a table that stands begins at nothing
pub first-floor : (rows : List Bracket) (row : Bracket) → first_broken breaks_table 0 None rows ≡ None → slice_get rows 0 ≡ Some row
    → row.floor ≡ 0
first-floor [] row h found = cc
first-floor (x ∷ rows) row h found =
    let same : x ≡ row = cc in
    let stands : breaks_table None x ≡ false = first-follows breaks_table 0 None x rows h in
    subst (λ (r : Bracket). r.floor ≡ 0) same (grind (arith, nat_tests))

-- no rate of a lawful table passes 850 basis points
all-stand : {X : Type 0} (breaks : Option X → X → Bool) (P : X → Type 0)
    → ((before : Option X) (x : X) → breaks before x ≡ false → P x)
    → (place : ℕ) (before : Option X) (xs : List X) → first_broken breaks place before xs ≡ None → All P xs
all-stand breaks P holds place before [] h = λ k d short. absurd (omega arith)
all-stand breaks P holds place before (x ∷ xs) h =
    All-cons P x xs (holds before x (first-follows breaks place before x xs h))
    (all-stand breaks P holds (place + 1) (Some x) xs (others-follow breaks place before x xs h))

pub front-ceiling : (rows : List Bracket) → front_fault rows ≡ None → All (λ row. row.rate ≤ 850) rows
front-ceiling rows h = all-stand breaks_table (λ row. row.rate ≤ 850) table-ceiling 0 None rows (rows-lawful rows h).stands

pub deferred-ceiling : (rates : List ℕ) → deferred_fault rates ≡ None → All (λ rate. rate ≤ 850) rates
deferred-ceiling rates h = all-stand breaks_schedule (λ rate. rate ≤ 850) schedule-ceiling 0 None rates (rates-lawful rates h).stands
