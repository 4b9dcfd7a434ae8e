-- A number put in its place among rising numbers is where the definition puts it.
use Rattle.std.proofs.Common.{All, List, [], ap, arith, cond, drop, false, filter, nat_lt, refl, slice_get, suc, sym, take, true, zero, ℕ, ◌++◌, ◌<◌, ◌==◌, ◌∙◌, ◌∷◌, ◌≡◌}
use Rattle.std.proofs.lemmas.Bool.{eqb-true, true≢false}
use Rattle.std.proofs.lemmas.Bool.Decides.{nat_tests}
use Rattle.std.proofs.lemmas.List.Elements.{All-weaker}
use Rattle.std.specs.List.Sorted.{IsPartitionPoint}
use Rattle.std.specs.Option.{option_map_or}
use Rattle.holder_statements.specs.AccountPositions.{AreRising}
use Rattle.household_positions.proofs.ListParts.{filter-all, filter-none}
use Rattle.register_machine.specs.corrections.Gains.{in_its_place}
use Rattle.share_lots.proofs.LotLemmas.{AllPairs-head, AllPairs-tail}

-- the place of a number: those before it are smaller
abbrev pub IsPlaceOf : ℕ → List ℕ → ℕ → Type 0
IsPlaceOf n ns k = IsPartitionPoint (λ other. nat_lt other n ≡ true) (λ other. nat_lt other n ≡ false) ns k

place-rest : (n x : ℕ) (xs : List ℕ) (i : ℕ) → IsPlaceOf n (x ∷ xs) (suc i) → IsPlaceOf n xs i
place-rest n x xs i point = (
  λ k d lo lt. point.0 (suc k) d (omega arith) (omega arith),
  λ k d lo lt. point.1 (suc k) d (omega arith) (omega arith),
)

not-both : (n m : ℕ) → nat_lt m n ≡ true → nat_lt n m ≡ false
not-both n m = grind (arith, nat_tests)

above : (n m : ℕ) → n < m → nat_lt n m ≡ true
above n m = grind (arith, nat_tests)

not-itself : (n m : ℕ) → m ≡ n → nat_lt n m ≡ false
not-itself n m = grind (arith, nat_tests)

else-above : (n m : ℕ) → nat_lt m n ≡ false → (m == n) ≡ false → nat_lt n m ≡ true
else-above n m = grind (arith, nat_tests)

passes-on : (n m l : ℕ) → nat_lt n m ≡ true → m < l → nat_lt n l ≡ true
passes-on n m l = grind (arith, nat_tests)

-- at the front: nothing is smaller
none-smaller : (n : ℕ) (ns : List ℕ) → IsPlaceOf n ns 0 → filter (λ other. nat_lt other n) ns ≡ []
none-smaller n ns point = filter-none (λ other. nat_lt other n) ns (λ k d short. point.1 k d (omega arith) short)

-- behind one that is smaller
behind : (n x : ℕ) (xs : List ℕ) → nat_lt x n ≡ true → in_its_place n (x ∷ xs) ≡ x ∷ in_its_place n xs
behind n x xs smaller =
    ap (λ b. cond b (x ∷ filter (λ other. nat_lt other n) xs) (filter (λ other. nat_lt other n) xs) ++ n ∷ filter (λ other. nat_lt n other) (x ∷ xs)) smaller
    ∙ ap (λ b. (x ∷ filter (λ other. nat_lt other n) xs) ++ n ∷ cond b (x ∷ filter (λ other. nat_lt n other) xs) (filter (λ other. nat_lt n other) xs)) (not-both n x smaller)

pub placed_there : (n : ℕ) (ns : List ℕ) (k : ℕ) → AreRising ns → IsPlaceOf n ns k → option_map_or (λ other. other == n) (slice_get ns k) false ≡ true → in_its_place n ns ≡ ns
placed_there n [] zero up point there = absurd (true≢false (sym there))
placed_there n [] (suc i) up point there = absurd (true≢false (sym there))
placed_there n (x ∷ xs) zero up point there =
    let same : x ≡ n = eqb-true x n there in
    let higher : All (λ m. nat_lt n m ≡ true) xs = All-weaker (λ m. x < m) (λ m. nat_lt n m ≡ true) (λ m lt. above n m (omega (arith, same, lt))) xs (AllPairs-head (λ a b. a < b) x xs up) in
    let rest : filter (λ other. nat_lt n other) (x ∷ xs) ≡ xs = ap (λ b. cond b (x ∷ filter (λ other. nat_lt n other) xs) (filter (λ other. nat_lt n other) xs)) (not-itself n x same) ∙ filter-all (λ other. nat_lt n other) xs higher in
    ap (λ ys. ys ++ n ∷ filter (λ other. nat_lt n other) (x ∷ xs)) (none-smaller n (x ∷ xs) point)
    ∙ (ap (λ ys. n ∷ ys) rest ∙ ap (λ m. m ∷ xs) (sym same))
placed_there n (x ∷ xs) (suc i) up point there =
    behind n x xs (point.0 0 x (omega arith) (omega arith))
    ∙ ap (λ ys. x ∷ ys) (placed_there n xs i (AllPairs-tail (λ a b. a < b) x xs up) (place-rest n x xs i point) there)

pub placed_new : (n : ℕ) (ns : List ℕ) (k : ℕ) → AreRising ns → IsPlaceOf n ns k → option_map_or (λ other. other == n) (slice_get ns k) false ≡ false → in_its_place n ns ≡ take k ns ++ n ∷ drop k ns
placed_new n [] zero up point new = refl
placed_new n [] (suc i) up point new = refl
placed_new n (x ∷ xs) zero up point new =
    let first : nat_lt n x ≡ true = else-above n x (point.1 0 x (omega arith) (omega arith)) new in
    let higher : All (λ m. nat_lt n m ≡ true) xs = All-weaker (λ m. x < m) (λ m. nat_lt n m ≡ true) (λ m lt. passes-on n x m first lt) xs (AllPairs-head (λ a b. a < b) x xs up) in
    let rest : filter (λ other. nat_lt n other) (x ∷ xs) ≡ x ∷ xs = ap (λ b. cond b (x ∷ filter (λ other. nat_lt n other) xs) (filter (λ other. nat_lt n other) xs)) first ∙ ap (λ ys. x ∷ ys) (filter-all (λ other. nat_lt n other) xs higher) in
    ap (λ ys. ys ++ n ∷ filter (λ other. nat_lt n other) (x ∷ xs)) (none-smaller n (x ∷ xs) point)
    ∙ ap (λ ys. n ∷ ys) rest
placed_new n (x ∷ xs) (suc i) up point new =
    behind n x xs (point.0 0 x (omega arith) (omega arith))
    ∙ ap (λ ys. x ∷ ys) (placed_new n xs i (AllPairs-tail (λ a b. a < b) x xs up) (place-rest n x xs i point) new)
