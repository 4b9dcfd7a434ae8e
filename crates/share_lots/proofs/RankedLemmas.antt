-- Lots by number, put in their places by rank.
use Rattle.std.proofs.Common.{◌≡◌, ◌≢◌, ℕ, ◌+◌, ◌<◌, ◌≤◌, Bool, true, false, List, [], ◌∷◌, length, get_or, drop, sum_by, refl, sym, ap, ◌∙◌, arith}
use Rattle.std.specs.Prelude.{All, AllPairs}
use Rattle.std.proofs.lemmas.List.{at_drop_more, at_drop_all}
use Rattle.std.proofs.lemmas.List.Sums.{sum_by-cons}
use Rattle.share_lots.specs.declared.lot.Lot.{Lot}
use Rattle.share_lots.specs.Lots.{IsHolding, IsLotList, mils, AreRanked, ranks_before, lots_with, placed_all, ranked_lots}
use Rattle.share_lots.proofs.LotLemmas.{All-head, All-tail, AllPairs-head, AllPairs-tail, All-placed, AllPairs-placed, sum-placed}
use Rattle.share_lots.proofs.OrderLemmas.{ranks-either}

-- lots in their places, and those that are still to be placed
pub record Placing (next : ℕ) (places rest : List Lot) : Type 0 where
  pub numbered : All (λ l. 1 ≤ l.number) places
  pub below_next : All (λ l. l.number < next) places
  pub distinct : AllPairs (λ a b. a.number ≢ b.number) places
  pub ranked : AreRanked places
  pub with_mils : All (λ l. 1 ≤ mils l) places
  pub rest_numbered : All (λ l. 1 ≤ l.number) rest
  pub rest_below : All (λ l. l.number < next) rest
  pub rest_rising : AllPairs (λ a b. a.number < b.number) rest
  pub rest_free : AllPairs (λ a b. a.free ≡ true → b.free ≡ false) rest
  pub rest_mils : All (λ l. 1 ≤ mils l) rest
  pub above : All (λ x. All (λ y. x.number < y.number) rest) places
  pub one_free : All (λ x. All (λ y. x.free ≡ true → y.free ≡ false) rest) places

pub Placing-start : (lots : List Lot) (next : ℕ) → IsLotList lots next → Placing next [] lots
Placing-start lots next is = record {
  numbered = λ k d short. absurd (omega arith);
  below_next = λ k d short. absurd (omega arith);
  distinct = λ i j d lt short. absurd (omega arith);
  ranked = λ i j d lt short. absurd (omega arith);
  with_mils = λ k d short. absurd (omega arith);
  rest_numbered = is.numbered;
  rest_below = is.below_next;
  rest_rising = is.rising;
  rest_free = is.one_free;
  rest_mils = is.with_mils;
  above = λ k d short. absurd (omega arith);
  one_free = λ k d short. absurd (omega arith);
}

-- a free lot's successor is not free, told the other way round
not_both : (a b : Bool) → (a ≡ true → b ≡ false) → b ≡ true → a ≡ false
not_both true b one e = cc (one refl)
not_both false b one e = refl

pub Placing-more : (next : ℕ) (places : List Lot) (x : Lot) (rest : List Lot) → Placing next places (x ∷ rest) → Placing next (lots_with x places) rest
Placing-more next places x rest p = record {
  numbered = All-placed (λ l. 1 ≤ l.number) x places (All-head (λ l. 1 ≤ l.number) x rest p.rest_numbered) p.numbered;
  below_next = All-placed (λ l. l.number < next) x places (All-head (λ l. l.number < next) x rest p.rest_below) p.below_next;
  distinct = AllPairs-placed (λ a b. a.number ≢ b.number) x places p.ranked (λ k d short. record { either = either k d short; before = λ lt e. new k d short e; behind = λ lt e. new k d short (sym e) }) p.distinct;
  ranked = AllPairs-placed (λ a b. ranks_before a b ≡ true) x places p.ranked (λ k d short. record { either = either k d short; before = λ lt. lt; behind = λ lt. lt }) p.ranked;
  with_mils = All-placed (λ l. 1 ≤ mils l) x places (All-head (λ l. 1 ≤ mils l) x rest p.rest_mils) p.with_mils;
  rest_numbered = All-tail (λ l. 1 ≤ l.number) x rest p.rest_numbered;
  rest_below = All-tail (λ l. l.number < next) x rest p.rest_below;
  rest_rising = AllPairs-tail (λ a b. a.number < b.number) x rest p.rest_rising;
  rest_free = AllPairs-tail (λ a b. a.free ≡ true → b.free ≡ false) x rest p.rest_free;
  rest_mils = All-tail (λ l. 1 ≤ mils l) x rest p.rest_mils;
  above = All-placed (λ z. All (λ y. z.number < y.number) rest) x places (AllPairs-head (λ a b. a.number < b.number) x rest p.rest_rising) (λ k d short. All-tail (λ y. (get_or places k d).number < y.number) x rest (p.above k d short));
  one_free = All-placed (λ z. All (λ y. z.free ≡ true → y.free ≡ false) rest) x places (AllPairs-head (λ a b. a.free ≡ true → b.free ≡ false) x rest p.rest_free) (λ k d short. All-tail (λ y. (get_or places k d).free ≡ true → y.free ≡ false) x rest (p.one_free k d short));
}
  where
    new : (k : ℕ) (d : Lot) → k < length places → ¬ ((get_or places k d).number ≡ x.number)
    new k d short e = let above = All-head (λ y. (get_or places k d).number < y.number) x rest (p.above k d short) in omega arith

    either : (k : ℕ) (d : Lot) → k < length places → ranks_before (get_or places k d) x ≡ false → ranks_before x (get_or places k d) ≡ true
    either k d short = ranks-either (get_or places k d) x (new k d short) (not_both (get_or places k d).free x.free (All-head (λ y. (get_or places k d).free ≡ true → y.free ≡ false) x rest (p.one_free k d short)))

sum-placed_all : (f : Lot → ℕ) (places lots : List Lot) → sum_by f (placed_all places lots) ≡ sum_by f places + sum_by f lots
unfolding placed_all
sum-placed_all f places [] = omega arith
sum-placed_all f places (x ∷ xs) = rw (sum-placed_all f (lots_with x places) xs, sum-placed f x places, sum_by-cons f x xs) (omega arith)

-- one lot more in its place
pub placing-more : (next : ℕ) (places new lots all : List Lot) (i : ℕ) (x : Lot) → i < length lots → x ≡ get_or lots i x → new ≡ lots_with x places → Placing next places (drop i lots) → placed_all places (drop i lots) ≡ all → Placing next new (drop (i + 1) lots) × (placed_all new (drop (i + 1) lots) ≡ all)
unfolding placed_all
placing-more next places new lots all i x h is e p done =
    let step : drop i lots ≡ x ∷ drop (i + 1) lots = at_drop_more (λ rest. rest) lots i x h ∙ ap (λ y. y ∷ drop (i + 1) lots) (sym is) in
    (rw e (Placing-more next places x (drop (i + 1) lots) (rw step at p)), rw e (rw step at done))

pub placing-all : (next : ℕ) (places lots : List Lot) (i : ℕ) → length lots ≤ i → placed_all places (drop i lots) ≡ ranked_lots lots → places ≡ ranked_lots lots
unfolding placed_all
placing-all next places lots i h done = sym (at_drop_all (λ rest. placed_all places rest) lots i h) ∙ done

pub IsHolding-placed : (next : ℕ) (places rest lots : List Lot) → Placing next places rest → IsLotList lots next → places ≡ ranked_lots lots → IsHolding (record { lots = places; next_lot = next })
IsHolding-placed next places rest lots p is e = record {
  next_number = is.next_number;
  numbered = p.numbered;
  below_next = p.below_next;
  distinct = p.distinct;
  ranked = p.ranked;
  with_mils = p.with_mils;
  few_mils = rw (e, sum-placed_all mils [] lots) (omega (arith, is.few_mils));
  low_cost = rw (e, sum-placed_all (λ (l : Lot). l.cost) [] lots) (omega (arith, is.low_cost));
}
