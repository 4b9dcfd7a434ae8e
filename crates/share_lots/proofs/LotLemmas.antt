-- What a change of each lot leaves of what holds of every position, and sums over lots.
use Rattle.std.proofs.Common.{◌≡◌, ◌≢◌, ℕ, zero, suc, ◌+◌, ◌-◌, ◌*◌, ◌<◌, ◌≤◌, Bool, true, false, cond, not, min, List, [], ◌∷◌, ◌++◌, length, get_or, map, filter, take, drop, set, sum_by, refl, sym, ap, ◌∙◌, inl, inr, arith, append_assoc, append-nil, find, Option, Some, None, option_map}
use Rattle.std.proofs.Math.Nat.{mul-le-mul_left}
use Rattle.std.proofs.lemmas.List.{at_drop_more, at_drop_all, take-append-drop, take_more_set, take_all, drop_all, drop-set-lt}
use Rattle.std.specs.Prelude.{All, AllPairs}
use Rattle.std.specs.List.Sorted.{IsPartitionPoint, IsPartitionedBy}
use Rattle.std.proofs.lemmas.Bool.{cases_lt}
use Rattle.std.proofs.lemmas.Bool.Decides.{leb_tells, eqb_tells}
use Rattle.std.proofs.lemmas.List.Elements.{All-cons, All-filter, All-map}
pub use Rattle.std.proofs.lemmas.List.Elements.{All-head, All-tail}
use Rattle.std.proofs.lemmas.List.Kept.{AllPairs-cons, AllPairs-filter}
use Rattle.std.proofs.lemmas.List.Sums.{sum_by-cons, sum_by-append, get_or-le-sum_by}
pub use Rattle.fund_calendar.proofs.ListFacts.{AllPairs-head, AllPairs-tail}
use Rattle.money_units.specs.Rounding.{half}
use Rattle.money_units.proofs.RoundingFacts.{half-mul, half-rises}
use Rattle.share_lots.specs.declared.lot.Lot.{Lot}
use Rattle.share_lots.specs.declared.lot.Piece.{Piece}
use Rattle.share_lots.specs.Lots.{Holding, IsHolding, IsLot, mils, AreRanked, ranks_before, most_mils, most_cost, HasLoose, hold_in, release_lot, join_free, lots_with, with_lot, lot_joined}
use Rattle.share_lots.specs.Taking.{lot_less, piece_cost, pieces_of, pieces, lots_less, has_mils}
use Rattle.share_lots.proofs.OrderLemmas.{ranks-owned, ranks-next, ranks-either}

-- loose and held mils make all mils
pub sum-mils : (lots : List Lot) → sum_by (λ lot. lot.loose) lots + sum_by (λ lot. lot.held) lots ≡ sum_by mils lots
sum-mils [] = refl
sum-mils (x ∷ xs) =
    rw (sum_by-cons (λ (lot : Lot). lot.loose) x xs, sum_by-cons (λ (lot : Lot). lot.held) x xs, sum_by-cons mils x xs) (omega (arith, sum-mils xs))

-- a sum over fewer lots
pub sum_by-filter-le : {X : Type 0} (f : X → ℕ) (p : X → Bool) (xs : List X) → sum_by f (filter p xs) ≤ sum_by f xs
sum_by-filter-le f p [] = omega arith
sum_by-filter-le f p (x ∷ xs) =
    rw (sum_by-cons f x xs) (elim (p x) as (λ b. sum_by f (cond b (x ∷ filter p xs) (filter p xs)) ≤ f x + sum_by f xs) [
      | true ↦ rw (sum_by-cons f x (filter p xs)) (omega (arith, sum_by-filter-le f p xs))
      | false ↦ omega (arith, sum_by-filter-le f p xs)
    ])

-- a lot in the place of another: its number, date and free mark stay, and it has no more mils and cost
pub record Stays (x y : Lot) : Type 0 where
  pub number : y.number ≡ x.number
  pub day_is : y.day ≡ x.day
  pub free_is : y.free ≡ x.free
  pub mils_le : mils y ≤ mils x
  pub cost_le : y.cost ≤ x.cost

abbrev pub Follows : List Lot → List Lot → Type 0
Follows [] [] = Unit {0}
Follows [] (y ∷ ys) = ⊥
Follows (x ∷ xs) [] = ⊥
Follows (x ∷ xs) (y ∷ ys) = Stays x y × Follows xs ys

All-follows : (P Q : Lot → Type 0) → ((x y : Lot) → Stays x y → P x → Q y) → (xs ys : List Lot) → Follows xs ys → All P xs → All Q ys
All-follows P Q step [] [] f h = λ k d short. absurd (omega arith)
All-follows P Q step [] (y ∷ ys) f h = absurd f
All-follows P Q step (x ∷ xs) [] f h = absurd f
All-follows P Q step (x ∷ xs) (y ∷ ys) f h = All-cons Q y ys (step x y f.0 (All-head P x xs h)) (All-follows P Q step xs ys f.1 (All-tail P x xs h))

AllPairs-follows : (R : Lot → Lot → Type 0) → ((a b x y : Lot) → Stays a x → Stays b y → R a b → R x y) → (xs ys : List Lot) → Follows xs ys → AllPairs R xs → AllPairs R ys
AllPairs-follows R step [] [] f h = h
AllPairs-follows R step [] (y ∷ ys) f h = absurd f
AllPairs-follows R step (x ∷ xs) [] f h = absurd f
AllPairs-follows R step (x ∷ xs) (y ∷ ys) f h =
    AllPairs-cons R y ys (All-follows (R x) (R y) (λ b c s r. step x b y c f.0 s r) xs ys f.1 (AllPairs-head R x xs h)) (AllPairs-follows R step xs ys f.1 (AllPairs-tail R x xs h))

sum-follows : (f : Lot → ℕ) → ((x y : Lot) → Stays x y → f y ≤ f x) → (xs ys : List Lot) → Follows xs ys → sum_by f ys ≤ sum_by f xs
sum-follows f step [] [] g = omega arith
sum-follows f step [] (y ∷ ys) g = absurd g
sum-follows f step (x ∷ xs) [] g = absurd g
sum-follows f step (x ∷ xs) (y ∷ ys) g =
    rw (sum_by-cons f x xs, sum_by-cons f y ys) (omega (arith, step x y g.0, sum-follows f step xs ys g.1))

ranks-stays : (a b x y : Lot) → Stays a x → Stays b y → ranks_before a b ≡ true → ranks_before x y ≡ true
ranks-stays a b x y s t first = rw (s.number, s.day_is, s.free_is, t.number, t.day_is, t.free_is) first

-- a position whose lots are replaced so, with some of them removed
pub IsHolding-follows : (h : Holding) (ys : List Lot) (p : Lot → Bool) → IsHolding h → Follows h.lots ys → All (λ lot. 1 ≤ mils lot) (filter p ys) → IsHolding (record { lots = filter p ys; next_lot = h.next_lot })
IsHolding-follows h ys p is f kept = record {
  next_number = is.next_number;
  numbered = All-filter p (λ lot. 1 ≤ lot.number) ys (All-follows (λ lot. 1 ≤ lot.number) (λ lot. 1 ≤ lot.number) (λ x y s low. rw s.number low) h.lots ys f is.numbered);
  below_next = All-filter p (λ lot. lot.number < h.next_lot) ys (All-follows (λ lot. lot.number < h.next_lot) (λ lot. lot.number < h.next_lot) (λ x y s low. rw s.number low) h.lots ys f is.below_next);
  distinct = AllPairs-filter (λ a b. a.number ≢ b.number) p ys (AllPairs-follows (λ a b. a.number ≢ b.number) (λ a b x y s t apart same. apart (sym s.number ∙ same ∙ t.number)) h.lots ys f is.distinct);
  ranked = AllPairs-filter (λ a b. ranks_before a b ≡ true) p ys (AllPairs-follows (λ a b. ranks_before a b ≡ true) ranks-stays h.lots ys f is.ranked);
  with_mils = kept;
  few_mils = omega (arith, sum_by-filter-le mils p ys, sum-follows mils (λ x y s. s.mils_le) h.lots ys f, is.few_mils);
  low_cost = omega (arith, sum_by-filter-le (λ (lot : Lot). lot.cost) p ys, sum-follows (λ (lot : Lot). lot.cost) (λ x y s. s.cost_le) h.lots ys f, is.low_cost);
}

filter-true : {X : Type 0} (xs : List X) → filter (λ _. true) xs ≡ xs
filter-true [] = refl
filter-true (x ∷ xs) = ap (λ rest. x ∷ rest) (filter-true xs)

pub IsHolding-map : (h : Holding) (f : Lot → Lot) → IsHolding h → Follows h.lots (map f h.lots) → All (λ lot. 1 ≤ mils lot) (map f h.lots) → IsHolding (record { lots = map f h.lots; next_lot = h.next_lot })
IsHolding-map h f is follows kept =
    let all = filter-true (map f h.lots) in
    rw all at (IsHolding-follows h (map f h.lots) (λ _. true) is follows (rw all kept))

-- each lot of a position is a lot within its limits
pub All-IsLot : (h : Holding) → IsHolding h → All IsLot h.lots
All-IsLot h is k d short = record {
  with_mils = is.with_mils k d short;
  few_mils = omega (arith, get_or-le-sum_by mils h.lots k d short, is.few_mils);
  low_cost = omega (arith, get_or-le-sum_by (λ (lot : Lot). lot.cost) h.lots k d short, is.low_cost);
}

-- what is kept has mils
pub All-has_mils : (lots : List Lot) → All (λ lot. 1 ≤ mils lot) (filter has_mils lots)
All-has_mils [] = λ k d short. absurd (omega arith)
All-has_mils (x ∷ xs) = elim (leb_tells 1 (mils x)) [
  | inl (t, some) ↦ rw t (All-cons (λ lot. 1 ≤ mils lot) x (filter has_mils xs) some (All-has_mils xs))
  | inr (t, none) ↦ rw t (All-has_mils xs)
]

-- a taking
Stays-lot_less : (lot : Lot) (quantity : ℕ) → Stays lot (lot_less lot quantity)
Stays-lot_less lot quantity = record { number = refl; day_is = refl; free_is = refl; mils_le = omega arith; cost_le = omega arith }

pub Follows-lots_less : (asked : ℕ) (lots : List Lot) → Follows lots (lots_less asked lots)
unfolding lots_less
Follows-lots_less asked [] = tt
Follows-lots_less asked (x ∷ xs) = (Stays-lot_less x (min x.loose asked), Follows-lots_less (asked - x.loose) xs)

-- the cost of a piece is at most the lot's, and all of it for all mils
pub half-le : (c q w : ℕ) → 1 ≤ w → q ≤ w → half (c * q) w ≤ c
half-le c q w positive h = omega (arith, half-rises (c * q) (c * w) w positive (mul-le-mul_left c h), half-mul c w positive)

-- a lot that gives nothing is as it was
pub nothing-less : (lot : Lot) → 1 ≤ mils lot → lot ≡ lot_less lot 0
nothing-less lot some = rw (no_cost, loose_kept, cost_kept) refl
  where
    loose_kept : lot.loose - 0 ≡ lot.loose
    loose_kept = omega arith

    cost_kept : lot.cost - 0 ≡ lot.cost
    cost_kept = omega arith

    none : lot.cost * 0 ≡ 0
    none = omega arith

    no_cost : piece_cost lot 0 ≡ 0
    no_cost = ap (λ n. half n (mils lot)) none ∙ omega (arith, half-le 0 0 (mils lot) some (omega arith))

-- the loop over the lots that give pieces
pub pieces-more : (lots : List Lot) (i left : ℕ) (d : Lot) → i < length lots → pieces left (drop i lots) ≡ pieces_of (get_or lots i d) (min (get_or lots i d).loose left) ++ pieces (left - min (get_or lots i d).loose left) (drop (i + 1) lots)
unfolding pieces
pieces-more lots i left d h =
    let same : left - min (get_or lots i d).loose left ≡ left - (get_or lots i d).loose = omega arith in
    rw same (at_drop_more (pieces left) lots i d h)

pub pieces-all : (lots : List Lot) (i left : ℕ) → length lots ≤ i → pieces left (drop i lots) ≡ []
unfolding pieces
pieces-all lots i left h = at_drop_all (pieces left) lots i h

-- and over what each keeps
pub lots_less-more : (lots : List Lot) (i left : ℕ) (d : Lot) → i < length lots → lots_less left (drop i lots) ≡ lot_less (get_or lots i d) (min (get_or lots i d).loose left) ∷ lots_less (left - min (get_or lots i d).loose left) (drop (i + 1) lots)
unfolding lots_less
lots_less-more lots i left d h =
    let same : left - min (get_or lots i d).loose left ≡ left - (get_or lots i d).loose = omega arith in
    rw same (at_drop_more (lots_less left) lots i d h)

pub lots_less-all : (lots : List Lot) (i left : ℕ) → length lots ≤ i → lots_less left (drop i lots) ≡ []
unfolding lots_less
lots_less-all lots i left h = at_drop_all (lots_less left) lots i h

-- one lot reduced in its place
pub reduced-more : (lots init : List Lot) (i left asked : ℕ) (x : Lot) → i < length lots → x ≡ get_or lots i x → take i lots ++ lots_less left (drop i lots) ≡ lots_less asked init → take (i + 1) (set lots i (lot_less x (min x.loose left))) ++ lots_less (left - min x.loose left) (drop (i + 1) (set lots i (lot_less x (min x.loose left)))) ≡ lots_less asked init
reduced-more lots init i left asked x h is done =
    rw (take_more_set lots i (lot_less x (min x.loose left)) h, drop-set-lt (i + 1) lots i (lot_less x (min x.loose left)) (omega arith), append_assoc) (ap (λ rest. take i lots ++ rest) (rw (← is) at (sym (lots_less-more lots i left x h))) ∙ done)

-- the loop ends with all lots reduced
pub reduced-all : (lots init : List Lot) (i left asked : ℕ) → length lots ≤ i → take i lots ++ lots_less left (drop i lots) ≡ lots_less asked init → lots ≡ lots_less asked init
reduced-all lots init i left asked h done =
    rw (lots_less-all lots i left h, append-nil, take_all i lots h) at done

pub taken-more : (taken next all : List Piece) (lots : List Lot) (i left : ℕ) (x : Lot) → i < length lots → x ≡ get_or lots i x → next ≡ taken ++ pieces_of x (min x.loose left) → taken ++ pieces left (drop i lots) ≡ all → next ++ pieces (left - min x.loose left) (drop (i + 1) lots) ≡ all
taken-more taken next all lots i left x h is new done =
    rw (new, append_assoc) (ap (λ rest. taken ++ rest) (rw (← is) at (sym (pieces-more lots i left x h))) ∙ done)

pub taken-all : (taken all : List Piece) (lots : List Lot) (i left : ℕ) → length lots ≤ i → taken ++ pieces left (drop i lots) ≡ all → taken ≡ all
taken-all taken all lots i left h done = rw (pieces-all lots i left h, append-nil) at done

-- where nothing is left to be taken, the lots that are left give nothing and stay
pub nothing-taken : (lots : List Lot) → pieces 0 lots ≡ []
unfolding pieces
nothing-taken [] = refl
nothing-taken (x ∷ xs) =
    let none : min x.loose 0 ≡ 0 = omega arith in
    let rest : 0 - x.loose ≡ 0 = omega arith in
    ap (λ n. pieces_of x n ++ pieces (0 - x.loose) xs) none ∙ ap (λ n. pieces n xs) rest ∙ nothing-taken xs

pub taken-up : (taken all : List Piece) (lots : List Lot) (i left : ℕ) → left ≡ 0 → taken ++ pieces left (drop i lots) ≡ all → taken ≡ all
taken-up taken all lots i left none done =
    sym (ap (λ n. taken ++ pieces n (drop i lots)) none
    ∙ ap (λ ps. taken ++ ps) (nothing-taken (drop i lots))
    ∙ append-nil taken) ∙ done

pub nothing-lessened : (lots : List Lot) → All (λ l. 1 ≤ mils l) lots → lots_less 0 lots ≡ lots
unfolding lots_less
nothing-lessened [] all = refl
nothing-lessened (x ∷ xs) all =
    let none : min x.loose 0 ≡ 0 = omega arith in
    let rest : 0 - x.loose ≡ 0 = omega arith in
    ap (λ n. lot_less x n ∷ lots_less (0 - x.loose) xs) none
    ∙ ap (λ n. lot_less x 0 ∷ lots_less n xs) rest
    ∙ ap (λ l. l ∷ lots_less 0 xs) (sym (nothing-less x (All-head (λ l. 1 ≤ mils l) x xs all)))
    ∙ ap (λ ls. x ∷ ls) (nothing-lessened xs (All-tail (λ l. 1 ≤ mils l) x xs all))

pub reduced-up : (lots init : List Lot) (i left asked : ℕ) → left ≡ 0 → All (λ l. 1 ≤ mils l) (drop i lots) → take i lots ++ lots_less left (drop i lots) ≡ lots_less asked init → lots ≡ lots_less asked init
reduced-up lots init i left asked none some done =
    sym (ap (λ n. take i lots ++ lots_less n (drop i lots)) none
    ∙ ap (λ ls. take i lots ++ ls) (nothing-lessened (drop i lots) some)
    ∙ take-append-drop i lots) ∙ done

-- the lots with mils held back, or all of them loose
Stays-hold_in : (number quantity : ℕ) (lot : Lot) → (lot.number ≡ number → quantity ≤ lot.loose) → Stays lot (hold_in number quantity lot)
Stays-hold_in number quantity lot has = elim (eqb_tells lot.number number) [
  | inl (t, e) ↦ rw t (record { number = refl; day_is = refl; free_is = refl; mils_le = omega (arith, has e); cost_le = omega arith })
  | inr (t, _) ↦ rw t (record { number = refl; day_is = refl; free_is = refl; mils_le = omega arith; cost_le = omega arith })
]

pub Follows-hold_in : (number quantity : ℕ) (lots : List Lot) → All (λ lot. lot.number ≡ number → quantity ≤ lot.loose) lots → Follows lots (map (hold_in number quantity) lots)
Follows-hold_in number quantity [] has = tt
Follows-hold_in number quantity (x ∷ xs) has =
    (Stays-hold_in number quantity x (All-head (λ lot. lot.number ≡ number → quantity ≤ lot.loose) x xs has), Follows-hold_in number quantity xs (All-tail (λ lot. lot.number ≡ number → quantity ≤ lot.loose) x xs has))

pub mils-hold_in : (number quantity : ℕ) (lot : Lot) → (lot.number ≡ number → quantity ≤ lot.loose) → mils (hold_in number quantity lot) ≡ mils lot
mils-hold_in number quantity lot has = elim (eqb_tells lot.number number) [
  | inl (t, e) ↦ rw t (omega (arith, has e))
  | inr (t, _) ↦ rw t refl
]

pub some-hold_in : (number quantity : ℕ) (lots : List Lot) → All (λ lot. lot.number ≡ number → quantity ≤ lot.loose) lots → All (λ lot. 1 ≤ mils lot) lots → All (λ lot. 1 ≤ mils lot) (map (hold_in number quantity) lots)
some-hold_in number quantity [] has some = λ k d short. absurd (omega arith)
some-hold_in number quantity (x ∷ xs) has some =
    All-cons (λ lot. 1 ≤ mils lot) (hold_in number quantity x) (map (hold_in number quantity) xs)
    (rw (mils-hold_in number quantity x (All-head (λ lot. lot.number ≡ number → quantity ≤ lot.loose) x xs has)) (All-head (λ lot. 1 ≤ mils lot) x xs some))
    (some-hold_in number quantity xs (All-tail (λ lot. lot.number ≡ number → quantity ≤ lot.loose) x xs has) (All-tail (λ lot. 1 ≤ mils lot) x xs some))

pub Follows-release : (lots : List Lot) → Follows lots (map release_lot lots)
Follows-release [] = tt
Follows-release (x ∷ xs) = (record { number = refl; day_is = refl; free_is = refl; mils_le = omega arith; cost_le = omega arith }, Follows-release xs)

pub some-release : (lots : List Lot) → All (λ lot. 1 ≤ mils lot) lots → All (λ lot. 1 ≤ mils lot) (map release_lot lots)
some-release [] some = λ k d short. absurd (omega arith)
some-release (x ∷ xs) some =
    All-cons (λ lot. 1 ≤ mils lot) (release_lot x) (map release_lot xs)
    (let here = All-head (λ lot. 1 ≤ mils lot) x xs some in omega arith)
    (some-release xs (All-tail (λ lot. 1 ≤ mils lot) x xs some))

-- the positions that these leave
pub IsHolding-hold : (h : Holding) (number quantity : ℕ) → IsHolding h → HasLoose h.lots number quantity → IsHolding (record { lots = map (hold_in number quantity) h.lots; next_lot = h.next_lot })
IsHolding-hold h number quantity is has = IsHolding-map h (hold_in number quantity) is (Follows-hold_in number quantity h.lots has) (some-hold_in number quantity h.lots has is.with_mils)

pub IsHolding-release : (h : Holding) → IsHolding h → IsHolding (record { lots = map release_lot h.lots; next_lot = h.next_lot })
IsHolding-release h is = IsHolding-map h release_lot is (Follows-release h.lots) (some-release h.lots is.with_mils)

pub IsHolding-taking : (h : Holding) (asked : ℕ) → IsHolding h → IsHolding (record { lots = filter has_mils (lots_less asked h.lots); next_lot = h.next_lot })
IsHolding-taking h asked is = IsHolding-follows h (lots_less asked h.lots) has_mils is (Follows-lots_less asked h.lots) (All-has_mils (lots_less asked h.lots))

-- what a slice of a whole vector leaves in it
pub written-back : {X : Type 0} (n : ℕ) (xs ys zs : List X) → n ≡ length xs → length zs ≡ length xs → zs ≡ ys → take n (zs ++ drop (length zs) xs) ≡ ys
written-back n xs ys zs e same is =
    rw (e, drop_all (length zs) xs (omega arith), append-nil) (take_all (length xs) zs (omega arith) ∙ is)

-- lots by rank have those before a lot first
pub parted_by_rank : (lot : Lot) (lots : List Lot) → AreRanked lots → IsPartitionedBy (λ other. ranks_before other lot) lots
parted_by_rank lot lots ranked i j d le short first = elim (cases_lt i j) [
  | inl lt ↦ ranks-next (get_or lots i d) (get_or lots j d) lot (ranked i j d lt short) first
  | inr ge ↦ let same : i ≡ j = omega arith in rw same first
]

-- where no lot comes before this one, it stands first
pub none_before : (lot : Lot) (lots : List Lot) → All (λ other. ranks_before other lot ≡ false) lots → (filter (λ other. ranks_before other lot) lots ≡ []) × (filter (λ other. not (ranks_before other lot)) lots ≡ lots)
none_before lot [] all = (refl, refl)
none_before lot (x ∷ xs) all =
    let behind = All-head (λ other. ranks_before other lot ≡ false) x xs all in
    let rest = none_before lot xs (All-tail (λ other. ranks_before other lot ≡ false) x xs all) in
    (rw behind rest.0, rw behind (ap (λ ys. x ∷ ys) rest.1))

-- an insert at the place by rank
pub inserted : (lots : List Lot) (lot : Lot) (i : ℕ) → IsPartitionPoint (λ other. ranks_before other lot ≡ true) (λ other. ranks_before other lot ≡ false) lots i → take i lots ++ lot ∷ drop i lots ≡ lots_with lot lots
inserted [] lot i point = rw (take_all {A = Lot} i [] (omega arith), drop_all {X = Lot} i [] (omega arith)) refl
inserted (x ∷ xs) lot zero point =
    let none = none_before lot (x ∷ xs) (λ k d short. point.1 k d (omega arith) short) in
    rw (none.0, none.1) refl
inserted (x ∷ xs) lot (suc i) point =
    let first = point.0 0 x (omega arith) (omega arith) in
    rw first (ap (λ ys. x ∷ ys) (inserted xs lot i (λ k d lo lt. point.0 (suc k) d (omega arith) (omega arith), λ k d lo lt. point.1 (suc k) d (omega arith) (omega arith))))

-- a lot placed before or behind the first
pub placed-behind : (x lot : Lot) (xs : List Lot) → ranks_before x lot ≡ true → lots_with lot (x ∷ xs) ≡ x ∷ lots_with lot xs
placed-behind x lot xs first = rw first refl

placed-first : (lot : Lot) (xs : List Lot) → All (λ other. ranks_before other lot ≡ false) xs → lots_with lot xs ≡ lot ∷ xs
placed-first lot xs behind = let none = none_before lot xs behind in rw (none.0, none.1) refl

All-append_lem : {X : Type 0} (P : X → Type 0) (xs ys : List X) → All P xs → All P ys → All P (xs ++ ys)
All-append_lem P [] ys h k = k
All-append_lem P (x ∷ xs) ys h k = All-cons P x (xs ++ ys) (All-head P x xs h) (All-append_lem P xs ys (All-tail P x xs h) k)

pub All-placed : (P : Lot → Type 0) (lot : Lot) (lots : List Lot) → P lot → All P lots → All P (lots_with lot lots)
All-placed P lot lots here all =
    All-append_lem P (filter (λ other. ranks_before other lot) lots) (lot ∷ filter (λ other. not (ranks_before other lot)) lots)
    (All-filter (λ other. ranks_before other lot) P lots all)
    (All-cons P lot (filter (λ other. not (ranks_before other lot)) lots) here (All-filter (λ other. not (ranks_before other lot)) P lots all))

-- how a new lot stands to one that is there
pub record Stands (R : Lot → Lot → Type 0) (lot x : Lot) : Type 0 where
  pub either : ranks_before x lot ≡ false → ranks_before lot x ≡ true
  pub before : ranks_before x lot ≡ true → R x lot
  pub behind : ranks_before lot x ≡ true → R lot x

all_behind : (lot x : Lot) (xs : List Lot) → AreRanked (x ∷ xs) → ranks_before x lot ≡ false → All (λ other. ranks_before other lot ≡ false) (x ∷ xs)
all_behind lot x xs ranked none =
    All-cons (λ other. ranks_before other lot ≡ false) x xs none (λ k d short. by (get_or xs k d) (AllPairs-head (λ a b. ranks_before a b ≡ true) x xs ranked k d short) (ranks_before (get_or xs k d) lot) refl)
  where
    by : (y : Lot) → ranks_before x y ≡ true → (t : Bool) → ranks_before y lot ≡ t → ranks_before y lot ≡ false
    by y behind true e = absurd (let first = ranks-next x y lot behind e in let clash : true ≡ false = sym first ∙ none in cc)
    by y behind false e = e

pub AllPairs-placed : (R : Lot → Lot → Type 0) (lot : Lot) (lots : List Lot) → AreRanked lots → All (Stands R lot) lots → AllPairs R lots → AllPairs R (lots_with lot lots)
AllPairs-placed R lot [] ranked stands pairs = AllPairs-cons R lot [] (λ k d short. absurd (omega arith)) pairs
AllPairs-placed R lot (x ∷ xs) ranked stands pairs =
    by (AllPairs-placed R lot xs (AllPairs-tail (λ a b. ranks_before a b ≡ true) x xs ranked) (All-tail (Stands R lot) x xs stands) (AllPairs-tail R x xs pairs)) (ranks_before x lot) refl
  where
    by : AllPairs R (lots_with lot xs) → (t : Bool) → ranks_before x lot ≡ t → AllPairs R (lots_with lot (x ∷ xs))
    by later true first =
        rw (placed-behind x lot xs first) (AllPairs-cons R x (lots_with lot xs)
        (All-placed (R x) lot xs ((All-head (Stands R lot) x xs stands).before first) (AllPairs-head R x xs pairs))
        later)
    by later false none =
        let behind = all_behind lot x xs ranked none in
        rw (placed-first lot (x ∷ xs) behind) (AllPairs-cons R lot (x ∷ xs)
        (λ k d short. let s = stands k d short in s.behind (s.either (behind k d short)))
        pairs)

sum_by-split : {X : Type 0} (f : X → ℕ) (p : X → Bool) (xs : List X) → sum_by f (filter p xs) + sum_by f (filter (λ x. not (p x)) xs) ≡ sum_by f xs
sum_by-split f p [] = refl
sum_by-split f p (x ∷ xs) =
    rw (sum_by-cons f x xs) (elim (p x) as (λ b. sum_by f (cond b (x ∷ filter p xs) (filter p xs)) + sum_by f (cond (not b) (x ∷ filter (λ y. not (p y)) xs) (filter (λ y. not (p y)) xs)) ≡ f x + sum_by f xs) [
      | true ↦ rw (sum_by-cons f x (filter p xs)) (omega (arith, sum_by-split f p xs))
      | false ↦ rw (sum_by-cons f x (filter (λ y. not (p y)) xs)) (omega (arith, sum_by-split f p xs))
    ])

pub sum-placed : (f : Lot → ℕ) (lot : Lot) (lots : List Lot) → sum_by f (lots_with lot lots) ≡ f lot + sum_by f lots
sum-placed f lot lots =
    rw (sum_by-append f (filter (λ other. ranks_before other lot) lots) (lot ∷ filter (λ other. not (ranks_before other lot)) lots), sum_by-cons f lot (filter (λ other. not (ranks_before other lot)) lots))
    (omega (arith, sum_by-split f (λ other. ranks_before other lot) lots))

-- the position with a new lot
pub IsHolding-with_lot : (h : Holding) (lot : Lot) → IsHolding h → lot.number ≡ h.next_lot → 1 ≤ mils lot → sum_by mils h.lots + mils lot ≤ most_mils → sum_by (λ l. l.cost) h.lots + lot.cost ≤ most_cost → (lot.free ≡ true → All (λ l. l.free ≡ false) h.lots) → IsHolding (with_lot h lot)
IsHolding-with_lot h lot is number some mils_fit cost_fits one = record {
  next_number = omega arith;
  numbered = All-placed (λ l. 1 ≤ l.number) lot h.lots (omega (arith, is.next_number)) is.numbered;
  below_next = All-placed (λ l. l.number < h.next_lot + 1) lot h.lots (omega arith) (λ k d short. let below = is.below_next k d short in omega arith);
  distinct = AllPairs-placed (λ a b. a.number ≢ b.number) lot h.lots is.ranked (λ k d short. record { either = either k d short; before = λ lt e. new k d short e; behind = λ lt e. new k d short (sym e) }) is.distinct;
  ranked = AllPairs-placed (λ a b. ranks_before a b ≡ true) lot h.lots is.ranked (λ k d short. record { either = either k d short; before = λ lt. lt; behind = λ lt. lt }) is.ranked;
  with_mils = All-placed (λ l. 1 ≤ mils l) lot h.lots some is.with_mils;
  few_mils = rw (sum-placed mils lot h.lots) (omega arith);
  low_cost = rw (sum-placed (λ (l : Lot). l.cost) lot h.lots) (omega arith);
}
  where
    new : (k : ℕ) (d : Lot) → k < length h.lots → ¬ ((get_or h.lots k d).number ≡ lot.number)
    new k d short e = let below = is.below_next k d short in omega arith

    either : (k : ℕ) (d : Lot) → k < length h.lots → ranks_before (get_or h.lots k d) lot ≡ false → ranks_before lot (get_or h.lots k d) ≡ true
    either k d short = ranks-either (get_or h.lots k d) lot (new k d short) (λ free. one free k d short)

-- no free lot is found where none is free
owned_with : (x : Lot) (xs : List Lot) (b : Bool) → x.free ≡ b → (find (λ l. l.free) xs ≡ None → All (λ l. l.free ≡ false) xs) → cond b (Some x) (find (λ l. l.free) xs) ≡ None → All (λ l. l.free ≡ false) (x ∷ xs)
owned_with x xs true f later g = cc
owned_with x xs false f later g = All-cons (λ l. l.free ≡ false) x xs f (later g)

all_owned : (lots : List Lot) → find (λ l. l.free) lots ≡ None → All (λ l. l.free ≡ false) lots
all_owned [] e = λ k d short. absurd (omega arith)
all_owned (x ∷ xs) e = owned_with x xs x.free refl (all_owned xs) e

no_free : (o : Option Lot) → option_map (λ (l : Lot). l.number) o ≡ None → o ≡ None
no_free None e = refl
no_free (Some l) e = cc

-- a new free lot has no other
pub lone_free : (lots : List Lot) (free : Bool) → lot_joined lots free ≡ None → free ≡ true → All (λ l. l.free ≡ false) lots
lone_free lots true e f = all_owned lots (no_free (find (λ l. l.free) lots) e)
lone_free lots false e f = cc

-- the free lot joined by more
pub number-join : (q c : ℕ) (lot : Lot) → (join_free q c lot).number ≡ lot.number
number-join q c lot = elim lot.free as (λ b. (cond b (record lot { loose = lot.loose + q; cost = lot.cost + c }) lot).number ≡ lot.number) [ true ↦ refl | false ↦ refl ]

day-join : (q c : ℕ) (lot : Lot) → (join_free q c lot).day ≡ lot.day
day-join q c lot = elim lot.free as (λ b. (cond b (record lot { loose = lot.loose + q; cost = lot.cost + c }) lot).day ≡ lot.day) [ true ↦ refl | false ↦ refl ]

free-join : (q c : ℕ) (lot : Lot) → (join_free q c lot).free ≡ lot.free
free-join q c lot = elim lot.free as (λ b. (cond b (record lot { loose = lot.loose + q; cost = lot.cost + c }) lot).free ≡ lot.free) [ true ↦ refl | false ↦ refl ]

ranks-join : (q c : ℕ) (a b : Lot) → ranks_before a b ≡ true → ranks_before (join_free q c a) (join_free q c b) ≡ true
ranks-join q c a b first = rw (number-join q c a, day-join q c a, free-join q c a, number-join q c b, day-join q c b, free-join q c b) first

mils-join : (q c : ℕ) (lot : Lot) → mils lot ≤ mils (join_free q c lot)
mils-join q c lot = elim lot.free as (λ b. mils lot ≤ mils (cond b (record lot { loose = lot.loose + q; cost = lot.cost + c }) lot)) [ true ↦ omega arith | false ↦ omega arith ]

AllPairs-map : (R : Lot → Lot → Type 0) (f : Lot → Lot) → ((a b : Lot) → R a b → R (f a) (f b)) → (xs : List Lot) → AllPairs R xs → AllPairs R (map f xs)
AllPairs-map R f step [] pairs = λ i j d lt short. absurd (omega arith)
AllPairs-map R f step (x ∷ xs) pairs =
    AllPairs-cons R (f x) (map f xs) (All-map (R (f x)) f xs (λ k d short. step x (get_or xs k d) (AllPairs-head R x xs pairs k d short))) (AllPairs-map R f step xs (AllPairs-tail R x xs pairs))

-- only the first lot is free, where any is
pub owned_behind : (x : Lot) (xs : List Lot) → AreRanked (x ∷ xs) → All (λ l. l.free ≡ false) xs
owned_behind x xs ranked k d short = ranks-owned x (get_or xs k d) (AllPairs-head (λ a b. ranks_before a b ≡ true) x xs ranked k d short)

join-owned : (q c : ℕ) (lot : Lot) → lot.free ≡ false → join_free q c lot ≡ lot
join-owned q c lot e = ap (λ b. cond b (record lot { loose = lot.loose + q; cost = lot.cost + c }) lot) e

pub join-free : (q c : ℕ) (lot : Lot) → lot.free ≡ true → join_free q c lot ≡ record lot { loose = lot.loose + q; cost = lot.cost + c }
join-free q c lot e = ap (λ b. cond b (record lot { loose = lot.loose + q; cost = lot.cost + c }) lot) e

pub map-join_none : (q c : ℕ) (lots : List Lot) → All (λ l. l.free ≡ false) lots → map (join_free q c) lots ≡ lots
map-join_none q c [] owned = refl
map-join_none q c (x ∷ xs) owned =
    let here = join-owned q c x (All-head (λ l. l.free ≡ false) x xs owned) in
    let rest = map-join_none q c xs (All-tail (λ l. l.free ≡ false) x xs owned) in
    ap (λ y. y ∷ map (join_free q c) xs) here ∙ ap (λ ys. x ∷ ys) rest

-- what joins is added once
sum-join_at : (f : Lot → ℕ) (more : ℕ) (q c : ℕ) → ((lot : Lot) → f (record lot { loose = lot.loose + q; cost = lot.cost + c }) ≡ f lot + more) → (x : Lot) (xs : List Lot) (b : Bool) → x.free ≡ b → AreRanked (x ∷ xs) → sum_by f (map (join_free q c) xs) ≤ sum_by f xs + more → f (join_free q c x) + sum_by f (map (join_free q c) xs) ≤ f x + sum_by f xs + more
sum-join_at f more q c step x xs true free ranked later =
    let here : f (join_free q c x) ≡ f x + more = ap f (join-free q c x free) ∙ step x in
    let rest : sum_by f (map (join_free q c) xs) ≡ sum_by f xs = ap (sum_by f) (map-join_none q c xs (owned_behind x xs ranked)) in
    omega arith
sum-join_at f more q c step x xs false free ranked later =
    let here : f (join_free q c x) ≡ f x = ap f (join-owned q c x free) in
    omega arith

sum-join : (f : Lot → ℕ) (more : ℕ) (q c : ℕ) → ((lot : Lot) → f (record lot { loose = lot.loose + q; cost = lot.cost + c }) ≡ f lot + more) → (lots : List Lot) → AreRanked lots → sum_by f (map (join_free q c) lots) ≤ sum_by f lots + more
sum-join f more q c step [] ranked = omega arith
sum-join f more q c step (x ∷ xs) ranked =
    let later = sum-join f more q c step xs (AllPairs-tail (λ a b. ranks_before a b ≡ true) x xs ranked) in
    let here = sum-join_at f more q c step x xs x.free refl ranked later in
    rw (sum_by-cons f (join_free q c x) (map (join_free q c) xs), sum_by-cons f x xs) here

pub IsHolding-joined : (h : Holding) (q c : ℕ) → IsHolding h → sum_by mils h.lots + q ≤ most_mils → sum_by (λ l. l.cost) h.lots + c ≤ most_cost → IsHolding (record { lots = map (join_free q c) h.lots; next_lot = h.next_lot })
IsHolding-joined h q c is mils_fit cost_fits = record {
  next_number = is.next_number;
  numbered = All-map (λ l. 1 ≤ l.number) (join_free q c) h.lots (λ k d short. rw (number-join q c (get_or h.lots k d)) (is.numbered k d short));
  below_next = All-map (λ l. l.number < h.next_lot) (join_free q c) h.lots (λ k d short. rw (number-join q c (get_or h.lots k d)) (is.below_next k d short));
  distinct = AllPairs-map (λ a b. a.number ≢ b.number) (join_free q c) (λ a b apart same. apart (sym (number-join q c a) ∙ same ∙ number-join q c b)) h.lots is.distinct;
  ranked = AllPairs-map (λ a b. ranks_before a b ≡ true) (join_free q c) (ranks-join q c) h.lots is.ranked;
  with_mils = All-map (λ l. 1 ≤ mils l) (join_free q c) h.lots (λ k d short. omega (arith, is.with_mils k d short, mils-join q c (get_or h.lots k d)));
  few_mils = omega (arith, sum-join mils q q c (λ lot. omega arith) h.lots is.ranked);
  low_cost = omega (arith, sum-join (λ (l : Lot). l.cost) c q c (λ lot. refl) h.lots is.ranked);
}
