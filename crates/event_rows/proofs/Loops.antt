-- Reading items one after the other, as a loop does.
use Rattle.std.proofs.Common.{◌≡◌, ℕ, zero, suc, ◌-◌, ◌+◌, ◌≤◌, ◌<◌, List, [], ◌∷◌, ◌++◌, length, get_or, take, Option, Some, None, refl, sym, ap, ◌∙◌, append_assoc, arith}
use Rattle.std.specs.List.{flat_map, AllByRecursion}
use Rattle.std.proofs.lemmas.List.{append-nil, take_more, flat_map_more}
use Rattle.std.proofs.lemmas.Option.{some_pair_parts}
use Rattle.event_rows.specs.declared.fault.RowFault.{RowFault}
use Rattle.event_rows.specs.declared.fault.RowFault.TheVariants as faults
use Rattle.event_rows.specs.FieldReading.{Fails, with_front, items_at}
use Rattle.event_rows.proofs.Fields.{read_some, map_some}

regroup : {A : Type 0} (front : List A) (x : A) (read : Option (List A × List ℕ)) → with_front front (with_front (x ∷ []) read) ≡ with_front (front ++ x ∷ []) read
regroup front x (Some y) = ap (λ xs. Some (xs, y.1)) (sym (append_assoc front (x ∷ []) y.0))
regroup front x None = refl

pub goes_on : {A : Type 0} (r : List ℕ → Option (A × List ℕ)) (front : List A) (count i : ℕ) (bytes : List ℕ) (x : A) (after : List ℕ) (total : Option (List A × List ℕ)) → i < count → r bytes ≡ Some (x, after)
    → with_front front (items_at r (count - i) bytes) ≡ total → with_front (front ++ x ∷ []) (items_at r (count - (i + 1)) after) ≡ total
unfolding items_at
goes_on r front count i bytes x after total lt h so_far =
    let k : count - i ≡ suc (count - (i + 1)) = omega arith in
    let one : with_front front (items_at r (count - i) bytes) ≡ with_front (front ++ x ∷ []) (items_at r (count - (i + 1)) after) = rw (k, h) (regroup front x (items_at r (count - (i + 1)) after)) in
    sym one ∙ so_far

pub ends : {A : Type 0} (r : List ℕ → Option (A × List ℕ)) (fault : RowFault) (front : List A) (count i : ℕ) (bytes : List ℕ) (total : Option (List A × List ℕ)) → i < count → Fails fault (r bytes)
    → with_front front (items_at r (count - i) bytes) ≡ total → Fails fault total
unfolding items_at
ends r faults.Memory front count i bytes total lt h so_far = tt
ends r faults.Wrong front count i bytes total lt h so_far =
    let k : count - i ≡ suc (count - (i + 1)) = omega arith in
    let one : with_front front (items_at r (count - i) bytes) ≡ None = rw (k, h) refl in
    sym so_far ∙ one

pub is_done : {A : Type 0} (r : List ℕ → Option (A × List ℕ)) (front : List A) (count i : ℕ) (bytes : List ℕ) (total : Option (List A × List ℕ)) → count ≤ i → with_front front (items_at r (count - i) bytes) ≡ total → total ≡ Some (front, bytes)
unfolding items_at
is_done r front count i bytes total le so_far =
    let k : count - i ≡ 0 = omega arith in
    let one : with_front front (items_at r (count - i) bytes) ≡ Some (front, bytes) = rw k (ap (λ xs. Some (xs, bytes)) (append-nil front)) in
    sym so_far ∙ one

-- so many items are read as were asked for
pub items_count : {A : Type 0} (r : List ℕ → Option (A × List ℕ)) (count : ℕ) (bytes : List ℕ) (xs : List A) (rest : List ℕ) → items_at r count bytes ≡ Some (xs, rest) → length xs ≡ count
unfolding items_at
items_count {A = A} r zero bytes xs rest e = ap (λ (ys : List A). length ys) (sym (some_pair_parts [] xs bytes rest e).0)
items_count {A = A} r (suc count) bytes xs rest e =
    let a = read_some (r bytes) (λ first. with_front (first.0 ∷ []) (items_at r count first.1)) (xs, rest) e in
    let b = map_some (items_at r count a.0.1) (λ (x : List A × List ℕ). (a.0.0 ∷ x.0, x.1)) (xs, rest) a.2 in
    let one : suc (length b.0.0) ≡ length xs = ap (λ (y : List A × List ℕ). length y.0) b.2 in
    sym one ∙ ap suc (items_count r count a.0.1 b.0.0 b.0.1 b.1)

-- ---- writing items one after the other

-- the item before the end of the next front
front_more : {A : Type 0} (xs : List A) (i : ℕ) (x : A) → i < length xs → x ≡ get_or xs i x → take (i + 1) xs ≡ take i xs ++ x ∷ []
front_more xs i x lt is = take_more xs i x lt ∙ ap (λ y. take i xs ++ y ∷ []) (sym is)

pub written_more : {A : Type 0} (s : A → List ℕ) (xs : List A) (i : ℕ) (x : A) (start before after : List ℕ) → i < length xs → x ≡ get_or xs i x
    → before ≡ start ++ flat_map s (take i xs) → after ≡ before ++ s x → after ≡ start ++ flat_map s (take (i + 1) xs)
written_more s xs i x start before after lt is so_far more =
    more ∙ ap (λ (y : List ℕ). y ++ s x) so_far ∙ flat_map_more s start (take i xs) x ∙ ap (λ y. start ++ flat_map s y) (sym (front_more xs i x lt is))

all_append : {A : Type 0} (f : A → Type 0) (xs : List A) (x : A) → AllByRecursion f xs → f x → AllByRecursion f (xs ++ x ∷ [])
all_append f [] x fits suits = (suits, tt)
all_append f (y ∷ xs) x fits suits = (fits.0, all_append f xs x fits.1 suits)

pub all_more : {A : Type 0} (f : A → Type 0) (xs : List A) (i : ℕ) (x : A) → i < length xs → x ≡ get_or xs i x
    → AllByRecursion f (take i xs) → f x → AllByRecursion f (take (i + 1) xs)
all_more f xs i x lt is fits suits = rw (front_more xs i x lt is) (all_append f (take i xs) x fits suits)
