-- The place of a sheet among trades that never fall by sheet, and what is found from it on.
use Rattle.std.proofs.Common.{Bool, List, Option, Some, [], ap, arith, cond, drop, false, find, get_or, inl, inr, length, nat_lt, not, refl, suc, sym, true, zero, ℕ, ◌-◌, ◌<◌, ◌==◌, ◌||◌, ◌∙◌, ◌∷◌, ◌≡◌, ◌≤◌}
use Rattle.std.proofs.lemmas.Bool.{and_parts, cases_lt, true≢false}
use Rattle.std.proofs.lemmas.Bool.Decides.{eqb_tells, nat_tests}
use Rattle.std.proofs.lemmas.Option.{slice_get-get_or, slice_get_past}
use Rattle.std.specs.List.Sorted.{IsPartitionedBy}
use Rattle.std.specs.Option.{option_map_or}
use Rattle.std.specs.Prelude.{option_map, unwrap_or}
use Rattle.agent_events.specs.declared.trade.Trade.{Trade}
use Rattle.holder_statements.specs.OrderTraces.{NeverFall}
use Rattle.holder_statements.specs.SheetPlaces.{IsPlaceOf, IsTradedOn, follows_earlier, is_earlier_at, parts_at}
use Rattle.register_machine.specs.rules.Breaks.{is_trade_of}

lower : (a b n : ℕ) → a ≤ b → nat_lt b n ≡ true → nat_lt a n ≡ true
lower a b n = grind (arith, nat_tests)

higher : (a b n : ℕ) → a ≤ b → nat_lt a n ≡ false → nat_lt b n ≡ false
higher a b n = grind (arith, nat_tests)

pub parted-before : (sheet : ℕ) (trades : List Trade) → NeverFall trades → IsPartitionedBy (λ trade. nat_lt trade.sheet sheet) trades
parted-before sheet trades never i j d le short first = elim (cases_lt i j) [
  | inl lt ↦ lower (get_or trades i d).sheet (get_or trades j d).sheet sheet (never i j d lt short) first
  | inr ge ↦ let same : i ≡ j = omega arith in rw same first
]

-- what is at a place
earlier-there : (sheet : ℕ) (trades : List Trade) (place : ℕ) (d : Trade) → place < length trades → is_earlier_at sheet trades place ≡ nat_lt (get_or trades place d).sheet sheet
earlier-there sheet trades place d short =
    ap (λ found. option_map_or (λ (trade : Trade). nat_lt trade.sheet sheet) found false) (slice_get-get_or trades place d short)

none-past : (sheet : ℕ) (trades : List Trade) (place : ℕ) → length trades ≤ place → is_earlier_at sheet trades place ≡ false
none-past sheet trades place past =
    ap (λ found. option_map_or (λ (trade : Trade). nat_lt trade.sheet sheet) found false) (slice_get_past trades place past)

within : (sheet : ℕ) (trades : List Trade) (place : ℕ) → is_earlier_at sheet trades place ≡ true → place < length trades
within sheet trades place is = elim (cases_lt place (length trades)) [
  | inl lt ↦ lt
  | inr ge ↦ absurd (true≢false (sym is ∙ none-past sheet trades place ge))
]

turned : (b : Bool) → not b ≡ true → b ≡ false
turned true is = sym is
turned false is = refl

not-first : (place : ℕ) → 1 ≤ place → (place == 0) ≡ false
not-first place some = grind (arith, nat_tests)

before-place : (sheet : ℕ) (trades : List Trade) (place : ℕ) → parts_at sheet trades place ≡ true → 1 ≤ place → is_earlier_at sheet trades (place - 1) ≡ true
before-place sheet trades place is some =
    sym (ap (λ b. b || is_earlier_at sheet trades (place - 1)) (not-first place some))
    ∙ (and_parts (follows_earlier sheet trades place) (not (is_earlier_at sheet trades place)) is).0

at-place : (sheet : ℕ) (trades : List Trade) (place : ℕ) → parts_at sheet trades place ≡ true → is_earlier_at sheet trades place ≡ false
at-place sheet trades place is =
    turned (is_earlier_at sheet trades place) (and_parts (follows_earlier sheet trades place) (not (is_earlier_at sheet trades place)) is).1

-- a place with an earlier sheet before it and none at it is the place of the sheet
pub place-is : (sheet : ℕ) (trades : List Trade) (place : ℕ) → NeverFall trades → parts_at sheet trades place ≡ true → IsPlaceOf sheet trades place
place-is sheet trades place never is = (
  λ k d lo lt.
      let last = before-place sheet trades place is (omega (arith, lt)) in
      let short = within sheet trades (place - 1) last in
      parted-before sheet trades never k (place - 1) d (omega (arith, lt)) short (sym (earlier-there sheet trades (place - 1) d short) ∙ last),
  λ k d lo lt.
      elim (cases_lt place k) [
        | inl less ↦ higher (get_or trades place d).sheet (get_or trades k d).sheet sheet (never place k d less lt) (sym (earlier-there sheet trades place d (omega (arith, less, lt))) ∙ at-place sheet trades place is)
        | inr ge ↦ (let same : k ≡ place = omega (arith, lo, ge) in sym (earlier-there sheet trades k d lt) ∙ rw same (at-place sheet trades place is))
      ],
)

pub place-fits : (sheet : ℕ) (trades : List Trade) (place : ℕ) → parts_at sheet trades place ≡ true → place ≤ length trades
place-fits sheet trades zero is = omega arith
place-fits sheet trades (suc i) is =
    let short = within sheet trades (suc i - 1) (before-place sheet trades (suc i) is (omega arith)) in
    omega (arith, short)

apart-before : (a n : ℕ) → nat_lt a n ≡ true → (a == n) ≡ false
apart-before a n = grind (arith, nat_tests)

some-same : (a b : ℕ) → Some a ≡ Some b → a ≡ b
some-same a b e = ap (λ (o : Option ℕ). unwrap_or o 0) e

same-sheet : (a b : ℕ) → Some a ≡ Some b → (a == b) ≡ true
same-sheet a b e = elim (eqb_tells a b) [
  | inl (is, same) ↦ is
  | inr (is, differs) ↦ absurd (differs (some-same a b e))
]

rest-of : (sheet : ℕ) (t : Trade) (ts : List Trade) (i : ℕ) → IsPlaceOf sheet (t ∷ ts) (suc i) → IsPlaceOf sheet ts i
rest-of sheet t ts i point = (
  λ k d lo lt. point.0 (suc k) d (omega arith) (omega arith),
  λ k d lo lt. point.1 (suc k) d (omega arith) (omega arith),
)

-- what is found first among all is found first from the place of its sheet on
pub found-from : (sheet account ref_no : ℕ) (trades : List Trade) (place : ℕ) → IsPlaceOf sheet trades place → IsTradedOn sheet account ref_no trades → find (is_trade_of account ref_no) (drop place trades) ≡ find (is_trade_of account ref_no) trades
found-from sheet account ref_no trades zero point is = refl
found-from sheet account ref_no [] (suc i) point is = refl
found-from sheet account ref_no (t ∷ ts) (suc i) point is =
    by (is_trade_of account ref_no t) refl (found-from sheet account ref_no ts i (rest-of sheet t ts i point))
  where
    p : Trade → Bool
    p = is_trade_of account ref_no

    earlier : (t.sheet == sheet) ≡ false
    earlier = apart-before t.sheet sheet (point.0 0 t (omega arith) (omega arith))

    by : (own : Bool) → p t ≡ own → (IsTradedOn sheet account ref_no ts → find p (drop i ts) ≡ find p ts) → find p (drop i ts) ≡ find p (t ∷ ts)
    by true owns rest =
        absurd (true≢false (sym (same-sheet t.sheet sheet (sym (ap (λ b. option_map (λ (x : Trade). x.sheet) (cond b (Some t) (find p ts))) owns) ∙ is)) ∙ earlier))
    by false other rest =
        rest (sym (ap (λ b. option_map (λ (x : Trade). x.sheet) (cond b (Some t) (find p ts))) other) ∙ is)
        ∙ sym (ap (λ b. cond b (Some t) (find p ts)) other)
