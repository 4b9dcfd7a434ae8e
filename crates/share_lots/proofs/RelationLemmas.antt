-- The amounts of a taking from lots by rank are the only ones that the relation allows, and its pieces and its rest are
-- theirs.
use Rattle.std.proofs.Common.{◌≡◌, ◌⊎◌, ℕ, zero, suc, ◌-◌, ◌<◌, ◌≤◌, true, false, min, List, [], ◌∷◌, ◌++◌, length, get_or, sum, sum_by, refl, sym, ap, ◌∙◌, inl, inr, arith}
use Rattle.std.proofs.lemmas.Bool.{cases_lt}
use Rattle.std.proofs.lemmas.List.Sums.{sum_by-cons}
use Rattle.share_lots.specs.declared.lot.Lot.{Lot}
use Rattle.share_lots.specs.Lots.{Holding, AreRanked, ranks_before}
use Rattle.share_lots.specs.Taking.{IsTaking, amounts, pieces_of, pieces, pieces_given, lot_less, lots_less, lots_kept, after_taking, holding_kept}
use Rattle.share_lots.proofs.LotLemmas.{AllPairs-tail}
use Rattle.share_lots.proofs.OrderLemmas.{ranks-back, ranks-itself}

length-amounts : (asked : ℕ) (lots : List Lot) → length (amounts asked lots) ≡ length lots
unfolding amounts
length-amounts asked [] = refl
length-amounts asked (x ∷ xs) = ap suc (length-amounts (asked - x.loose) xs)

sum-amounts : (asked : ℕ) (lots : List Lot) → asked ≤ sum_by (λ l. l.loose) lots → sum (amounts asked lots) ≡ asked
unfolding amounts
sum-amounts asked [] h = omega arith
sum-amounts asked (x ∷ xs) h =
    let total = sum_by-cons (λ (l : Lot). l.loose) x xs in
    rw (sum_by-cons (λ n. n) (min x.loose asked) (amounts (asked - x.loose) xs)) (omega (arith, sum-amounts (asked - x.loose) xs (omega arith)))

within-amounts : (asked : ℕ) (lots : List Lot) (i : ℕ) (d : Lot) → i < length lots → get_or (amounts asked lots) i 0 ≤ (get_or lots i d).loose
unfolding amounts
within-amounts asked [] i d h = absurd (omega arith)
within-amounts asked (x ∷ xs) zero d h = omega arith
within-amounts asked (x ∷ xs) (suc i) d h = within-amounts (asked - x.loose) xs i d (omega arith)

-- a lot gives only where something is asked for
some-amounts : (asked : ℕ) (lots : List Lot) (j : ℕ) → j < length lots → 0 < get_or (amounts asked lots) j 0 → 0 < asked
unfolding amounts
some-amounts asked [] j h some = absurd (omega arith)
some-amounts asked (x ∷ xs) zero h some = omega arith
some-amounts asked (x ∷ xs) (suc j) h some = let later = some-amounts (asked - x.loose) xs j (omega arith) some in omega arith

rank-amounts : (asked : ℕ) (lots : List Lot) (i j : ℕ) (d : Lot) → i < j → j < length lots → 0 < get_or (amounts asked lots) j 0 → get_or (amounts asked lots) i 0 ≡ (get_or lots i d).loose
unfolding amounts
rank-amounts asked [] i j d lt h some = absurd (omega arith)
rank-amounts asked (x ∷ xs) i zero d lt h some = absurd (omega arith)
rank-amounts asked (x ∷ xs) zero (suc j) d lt h some = let left = some-amounts (asked - x.loose) xs j (omega arith) some in omega arith
rank-amounts asked (x ∷ xs) (suc i) (suc j) d lt h some = rank-amounts (asked - x.loose) xs i j d (omega arith) (omega arith) some

-- of lots by rank, one that comes before another stands before it
stands_before : (lots : List Lot) (i j : ℕ) (d : Lot) → AreRanked lots → i < length lots → j < length lots → ranks_before (get_or lots i d) (get_or lots j d) ≡ true → i < j
stands_before lots i j d ranked low short first = elim (cases_lt i j) [
  | inl lt ↦ lt
  | inr ge ↦ absurd (let none = not_first ge (cases_lt j i) in let clash : true ≡ false = sym first ∙ none in cc)
]
  where
    not_first : j ≤ i → (j < i) ⊎ (i ≤ j) → ranks_before (get_or lots i d) (get_or lots j d) ≡ false
    not_first ge (inl lt) = ranks-back (get_or lots j d) (get_or lots i d) (ranked j i d lt low)
    not_first ge (inr le) = ranks-itself (get_or lots i d) (get_or lots j d) (let same : i ≡ j = omega arith in ap (λ k. get_or lots k d) same)

pub amounts_taking : (asked : ℕ) (lots : List Lot) → AreRanked lots → asked ≤ sum_by (λ l. l.loose) lots → IsTaking asked lots (amounts asked lots)
amounts_taking asked lots ranked h = record {
  one_each = length-amounts asked lots;
  whole = sum-amounts asked lots h;
  within = within-amounts asked lots;
  in_rank = λ i j d low short first some. rank-amounts asked lots i j d (stands_before lots i j d ranked low short first) short some;
}

-- a sum above 0 has an item above 0
some_item : (xs : List ℕ) → 0 < sum xs → (j : ℕ) × (j < length xs) × (0 < get_or xs j 0)
some_item [] h = absurd (omega arith)
some_item (x ∷ xs) h = elim (cases_lt 0 x) [
  | inl some ↦ (0, omega arith, some)
  | inr none ↦
      let total = sum_by-cons (λ n. n) x xs in
      let later = some_item xs (omega arith) in
      (suc later.0, omega (arith, later.1), later.2)
]

-- the first amount is all that its lot has, or all that is asked
first_amount : (asked : ℕ) (x : Lot) (xs : List Lot) (g : ℕ) (gs : List ℕ) → AreRanked (x ∷ xs) → IsTaking asked (x ∷ xs) (g ∷ gs) → (g ≡ min x.loose asked) × (sum gs ≡ asked - x.loose)
first_amount asked x xs g gs ranked is = elim (cases_lt 0 (sum gs)) [
  | inl some ↦
      let total = sum_by-cons (λ n. n) g gs in
      let later = some_item gs some in
      let short : suc later.0 < length (x ∷ xs) = (let long = is.one_each in omega (arith, later.1)) in
      let all : g ≡ x.loose = is.in_rank 0 (suc later.0) x (omega arith) short (ranked 0 (suc later.0) x (omega arith) short) later.2 in
      let whole = is.whole in
      (omega arith, omega arith)
  | inr none ↦
      let total = sum_by-cons (λ n. n) g gs in
      let whole = is.whole in
      let within = is.within 0 x (omega arith) in
      (omega arith, omega arith)
]

pub only_amounts : (asked : ℕ) (lots : List Lot) (given : List ℕ) → AreRanked lots → IsTaking asked lots given → given ≡ amounts asked lots
unfolding amounts
only_amounts asked [] [] ranked is = refl
only_amounts asked [] (g ∷ gs) ranked is = absurd (let long = is.one_each in omega arith)
only_amounts asked (x ∷ xs) [] ranked is = absurd (let long = is.one_each in omega arith)
only_amounts asked (x ∷ xs) (g ∷ gs) ranked is =
    let first = first_amount asked x xs g gs ranked is in
    let rest : IsTaking (asked - x.loose) xs gs = record {
      one_each = (let long = is.one_each in omega arith);
      whole = first.1;
      within = λ i d h. is.within (suc i) d (omega arith);
      in_rank = λ i j d low short before some. is.in_rank (suc i) (suc j) d (omega arith) (omega arith) before some;
    } in
    ap (λ n. n ∷ gs) first.0 ∙ ap (λ ns. min x.loose asked ∷ ns) (only_amounts (asked - x.loose) xs gs (AllPairs-tail (λ a b. ranks_before a b ≡ true) x xs ranked) rest)

pieces_amounts : (asked : ℕ) (lots : List Lot) → pieces asked lots ≡ pieces_given lots (amounts asked lots)
unfolding pieces amounts
pieces_amounts asked [] = refl
pieces_amounts asked (x ∷ xs) = ap (λ ps. pieces_of x (min x.loose asked) ++ ps) (pieces_amounts (asked - x.loose) xs)

kept_amounts : (asked : ℕ) (lots : List Lot) → lots_less asked lots ≡ lots_kept lots (amounts asked lots)
unfolding lots_less amounts
kept_amounts asked [] = refl
kept_amounts asked (x ∷ xs) = ap (λ ls. lot_less x (min x.loose asked) ∷ ls) (kept_amounts (asked - x.loose) xs)

pub pieces_by_amounts : (asked : ℕ) (lots : List Lot) (given : List ℕ) → AreRanked lots → IsTaking asked lots given → pieces asked lots ≡ pieces_given lots given
pieces_by_amounts asked lots given ranked is = pieces_amounts asked lots ∙ ap (pieces_given lots) (sym (only_amounts asked lots given ranked is))

pub rest_by_amounts : (asked : ℕ) (h : Holding) (given : List ℕ) → AreRanked h.lots → IsTaking asked h.lots given → after_taking h asked ≡ holding_kept h given
rest_by_amounts asked h given ranked is =
    let same : lots_less asked h.lots ≡ lots_kept h.lots given = kept_amounts asked h.lots ∙ ap (lots_kept h.lots) (sym (only_amounts asked h.lots given ranked is)) in
    rw same refl
