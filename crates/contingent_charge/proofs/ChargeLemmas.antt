-- Values, bases and charges of pieces, and their sums.
use Rattle.std.proofs.Common.{◌≡◌, ℕ, zero, suc, ◌+◌, ◌-◌, ◌*◌, ◌<◌, ◌≤◌, Bool, true, false, cond, min, List, [], ◌∷◌, length, get_or, drop, sum_by, refl, sym, ap, ◌∙◌, arith, add_assoc, add-zero, zero-add, lit≤, subst}
use Rattle.std.proofs.Math.Nat.{mul-le-mul_left, mul-le-mul_right, le_trans}
use Rattle.std.proofs.lemmas.List.{at_drop_more, at_drop_all}
use Rattle.std.proofs.lemmas.List.Sums.{sum_by-cons}
use Rattle.std.specs.Prelude.{All}
use Rattle.money_units.specs.Rounding.{half}
use Rattle.money_units.proofs.RoundingFacts.{half-le, half-rises}
use Rattle.fund_calendar.specs.Dates.{anniversaries}
use Rattle.share_lots.specs.declared.lot.Piece.{Piece}
use Rattle.share_lots.specs.Values.{value_at}
use Rattle.share_lots.proofs.ValueLemmas.{value_at-rises}
use Rattle.contingent_charge.specs.declared.charging.Charged.{Charged}
use Rattle.contingent_charge.specs.DeferredCharge.{rate_on, value_between, Valued, with_values, base_of, charge_of, cost_charge, charge_of_pieces, most_charged}

abbrev pub mils_of : Piece → ℕ
mils_of piece = piece.mils

abbrev pub value_of : Valued → ℕ
value_of item = item.value

up-to : (a b : ℕ) → a ≤ b → a + (b - a) ≡ b
up-to a b h = omega arith

-- no mils are worth nothing
pub value-zero : (nav : ℕ) → value_at nav 0 ≡ 0
value-zero nav =
    let low : half (0 * nav) 1000 ≤ 0 = half-le (0 * nav) 1000 0 (omega arith) (omega arith) in omega arith

-- what mils add to the value of those before them
pub value-step : (nav before mils : ℕ) → value_at nav before + value_between nav before mils ≡ value_at nav (before + mils)
value-step nav before mils =
    up-to (value_at nav before) (value_at nav (before + mils)) (value_at-rises nav before (before + mils) (omega arith))

-- the values of pieces sum to the value of all their mils
pub values-from : (nav before : ℕ) (pieces : List Piece) → value_at nav before + sum_by value_of (with_values nav before pieces) ≡ value_at nav (before + sum_by mils_of pieces)
unfolding with_values
values-from nav before [] = add-zero (value_at nav before) ∙ ap (value_at nav) (sym (add-zero before))
values-from nav before (p ∷ ps) =
    rw (sum_by-cons mils_of p ps, sum_by-cons value_of (record { piece = p; value = value_between nav before p.mils }) (with_values nav (before + p.mils) ps))
    (sym (add_assoc (value_at nav before) (value_between nav before p.mils) (sum_by value_of (with_values nav (before + p.mils) ps)))
    ∙ ap (λ n. n + sum_by value_of (with_values nav (before + p.mils) ps)) (value-step nav before p.mils)
    ∙ values-from nav (before + p.mils) ps
    ∙ ap (value_at nav) (add_assoc before p.mils (sum_by mils_of ps)))

pub from-zero : (a b c d : ℕ) → a ≡ 0 → c ≡ d → a + b ≡ c → b ≡ d
from-zero a b c d z e h = omega arith

-- no rate passes the greatest of the schedule
pub rate-ceiling : (i top : ℕ) (schedule : List ℕ) → All (λ rate. rate ≤ top) schedule → get_or schedule i 0 ≤ top
rate-ceiling i top [] h = omega arith
rate-ceiling zero top (x ∷ xs) h = h 0 x (omega arith)
rate-ceiling (suc i) top (x ∷ xs) h = rate-ceiling i top xs (λ k d short. h (suc k) d (omega arith))

-- what a rate takes of an amount is within it
taken-within : (amount rate : ℕ) → rate ≤ 10000 → half (amount * rate) 10000 ≤ amount
taken-within amount rate low = half-le (amount * rate) 10000 amount (omega arith) (mul-le-mul_left amount low)

min-within : (a b : ℕ) → min a b ≤ b
min-within a b = omega arith

min-cost : (a b : ℕ) → min a b ≤ a
min-cost a b = omega arith

unless-free : (free : Bool) (a b : ℕ) → a ≤ b → cond free 0 a ≤ b
unless-free true a b h = omega arith
unless-free false a b h = h

pub base-within : (item : Valued) → base_of item ≤ item.value
base-within item = unless-free item.piece.free (min item.piece.cost item.value) item.value (omega arith)

pub charge-within : (day : ℕ) (schedule : List ℕ) (item : Valued) → All (λ rate. rate ≤ 850) schedule → charge_of day schedule item ≤ item.value
charge-within day schedule item h =
    let lesser = min item.piece.cost item.value in
    let rate = rate_on item.piece.day day schedule in
    let low : rate ≤ 850 = rate-ceiling (anniversaries item.piece.day day) 850 schedule h in
    let within : half (lesser * rate) 10000 ≤ lesser = taken-within lesser rate (le_trans low (lit≤ tt)) in
    unless-free item.piece.free (half (lesser * rate) 10000) item.value (le_trans within (min-within item.piece.cost item.value))

pub charge-cost : (day : ℕ) (schedule : List ℕ) (item : Valued) → charge_of day schedule item ≤ cost_charge day schedule item.piece
charge-cost day schedule item =
    let lesser = min item.piece.cost item.value in
    let rate = rate_on item.piece.day day schedule in
    unless-free item.piece.free (half (lesser * rate) 10000) (half (item.piece.cost * rate) 10000)
    (half-rises (lesser * rate) (item.piece.cost * rate) 10000 (lit≤ tt) (mul-le-mul_right rate (min-cost item.piece.cost item.value)))

-- one piece of the rest, and none
abbrev pub item_at : ℕ → ℕ → Piece → Valued
item_at nav before piece = record { piece = piece; value = value_between nav before piece.mils }

valued-more : (pieces : List Piece) (nav before i : ℕ) (d : Piece) → i < length pieces → with_values nav before (drop i pieces) ≡ item_at nav before (get_or pieces i d) ∷ with_values nav (before + (get_or pieces i d).mils) (drop (i + 1) pieces)
unfolding with_values
valued-more pieces nav before i d h = at_drop_more (with_values nav before) pieces i d h

valued-end : (pieces : List Piece) (nav before i : ℕ) → length pieces ≤ i → with_values nav before (drop i pieces) ≡ []
unfolding with_values
valued-end pieces nav before i h = at_drop_all (with_values nav before) pieces i h

-- what is summed so far and what is left make the whole, one piece on
sum-more : (f : Valued → ℕ) (pieces : List Piece) (nav before i : ℕ) (d : Piece) (sum next whole : ℕ) → i < length pieces
    → sum + sum_by f (with_values nav before (drop i pieces)) ≡ whole → next ≡ sum + f (item_at nav before (get_or pieces i d))
    → next + sum_by f (with_values nav (before + (get_or pieces i d).mils) (drop (i + 1) pieces)) ≡ whole
sum-more f pieces nav before i d sum next whole h so_far e =
    let item = item_at nav before (get_or pieces i d) in
    let rest = with_values nav (before + (get_or pieces i d).mils) (drop (i + 1) pieces) in
    let left : sum_by f (with_values nav before (drop i pieces)) ≡ f item + sum_by f rest = ap (sum_by f) (valued-more pieces nav before i d h) ∙ sum_by-cons f item rest in
    rw e (add_assoc sum (f item) (sum_by f rest) ∙ ap (λ n. sum + n) (sym left) ∙ so_far)

sum-end : (f : Valued → ℕ) (pieces : List Piece) (nav before i sum whole : ℕ) → length pieces ≤ i
    → sum + sum_by f (with_values nav before (drop i pieces)) ≡ whole → sum ≡ whole
sum-end f pieces nav before i sum whole h so_far =
    sym (add-zero sum) ∙ ap (λ items. sum + sum_by f items) (sym (valued-end pieces nav before i h)) ∙ so_far

mils-more : (pieces : List Piece) (before i : ℕ) (d : Piece) (whole : ℕ) → i < length pieces → before + sum_by mils_of (drop i pieces) ≡ whole
    → (before + (get_or pieces i d).mils) + sum_by mils_of (drop (i + 1) pieces) ≡ whole
mils-more pieces before i d whole h so_far =
    let left : sum_by mils_of (drop i pieces) ≡ (get_or pieces i d).mils + sum_by mils_of (drop (i + 1) pieces) = at_drop_more (sum_by mils_of) pieces i d h ∙ sum_by-cons mils_of (get_or pieces i d) (drop (i + 1) pieces) in
    add_assoc before (get_or pieces i d).mils (sum_by mils_of (drop (i + 1) pieces)) ∙ ap (λ n. before + n) (sym left) ∙ so_far

-- the sums of the first pieces: with those of the rest they make the whole
pub record SoFar (pieces : List Piece) (nav day : ℕ) (schedule : List ℕ) (i before : ℕ) (sums : Charged) : Type 0 where
  pub mils : before + sum_by mils_of (drop i pieces) ≡ sum_by mils_of pieces
  pub value : sums.value ≡ value_at nav before
  pub values : sums.value + sum_by value_of (with_values nav before (drop i pieces)) ≡ sum_by value_of (with_values nav 0 pieces)
  pub bases : sums.base + sum_by base_of (with_values nav before (drop i pieces)) ≡ sum_by base_of (with_values nav 0 pieces)
  pub charges : sums.charge + sum_by (charge_of day schedule) (with_values nav before (drop i pieces)) ≡ sum_by (charge_of day schedule) (with_values nav 0 pieces)
  pub base_within : sums.base ≤ sums.value
  pub charge_within : sums.charge ≤ sums.value

pub SoFar-start : (pieces : List Piece) (nav day : ℕ) (schedule : List ℕ) → SoFar pieces nav day schedule 0 0 (record { value = 0; base = 0; charge = 0 })
SoFar-start pieces nav day schedule = record {
  mils = zero-add (sum_by mils_of pieces);
  value = sym (value-zero nav);
  values = zero-add (sum_by value_of (with_values nav 0 pieces));
  bases = zero-add (sum_by base_of (with_values nav 0 pieces));
  charges = zero-add (sum_by (charge_of day schedule) (with_values nav 0 pieces));
  base_within = omega arith;
  charge_within = omega arith;
}

both-within : (a b v w next whole : ℕ) → a ≤ v → b ≤ w → next ≡ a + b → whole ≡ v + w → next ≤ whole
both-within a b v w next whole h k e f = omega arith

-- a piece is added to the sums
pub record IsAdded (nav day : ℕ) (schedule : List ℕ) (before : ℕ) (piece : Piece) (sums next : Charged) : Type 0 where
  pub value : next.value ≡ sums.value + value_between nav before piece.mils
  pub base : next.base ≡ sums.base + base_of (item_at nav before piece)
  pub charge : next.charge ≡ sums.charge + charge_of day schedule (item_at nav before piece)

SoFar-next : (pieces : List Piece) (nav day : ℕ) (schedule : List ℕ) (i before : ℕ) (sums next : Charged) (d : Piece) → i < length pieces
    → All (λ rate. rate ≤ 850) schedule → SoFar pieces nav day schedule i before sums → IsAdded nav day schedule before (get_or pieces i d) sums next
    → SoFar pieces nav day schedule (i + 1) (before + (get_or pieces i d).mils) next
SoFar-next pieces nav day schedule i before sums next d short rates so_far added =
    let piece = get_or pieces i d in
    let item = item_at nav before piece in
    record {
      mils = mils-more pieces before i d (sum_by mils_of pieces) short so_far.mils;
      value = added.value ∙ ap (λ n. n + value_between nav before piece.mils) so_far.value ∙ value-step nav before piece.mils;
      values = sum-more value_of pieces nav before i d sums.value next.value (sum_by value_of (with_values nav 0 pieces)) short so_far.values added.value;
      bases = sum-more base_of pieces nav before i d sums.base next.base (sum_by base_of (with_values nav 0 pieces)) short so_far.bases added.base;
      charges = sum-more (charge_of day schedule) pieces nav before i d sums.charge next.charge (sum_by (charge_of day schedule) (with_values nav 0 pieces)) short so_far.charges added.charge;
      base_within = both-within sums.base (base_of item) sums.value item.value next.base next.value so_far.base_within (base-within item) added.base added.value;
      charge_within = both-within sums.charge (charge_of day schedule item) sums.value item.value next.charge next.value so_far.charge_within (charge-within day schedule item rates) added.charge added.value;
    }

pub SoFar-more : (pieces : List Piece) (nav day : ℕ) (schedule : List ℕ) (i before : ℕ) (sums next : Charged) (piece : Piece) → i < length pieces
    → piece ≡ get_or pieces i piece → All (λ rate. rate ≤ 850) schedule → SoFar pieces nav day schedule i before sums → IsAdded nav day schedule before piece sums next
    → SoFar pieces nav day schedule (i + 1) (before + piece.mils) next
SoFar-more pieces nav day schedule i before sums next piece short is rates so_far added =
    let at : IsAdded nav day schedule before (get_or pieces i piece) sums next = subst (λ (p : Piece). IsAdded nav day schedule before p sums next) is added in
    subst (λ (p : Piece). SoFar pieces nav day schedule (i + 1) (before + p.mils) next) (sym is) (SoFar-next pieces nav day schedule i before sums next piece short rates so_far at)

-- there is room for the mils of a piece
pub SoFar-room : (pieces : List Piece) (nav day : ℕ) (schedule : List ℕ) (i before : ℕ) (sums : Charged) (piece : Piece) → i < length pieces
    → piece ≡ get_or pieces i piece → SoFar pieces nav day schedule i before sums → before + piece.mils ≤ sum_by mils_of pieces
SoFar-room pieces nav day schedule i before sums piece short is so_far =
    let more : (before + (get_or pieces i piece).mils) + sum_by mils_of (drop (i + 1) pieces) ≡ sum_by mils_of pieces = mils-more pieces before i piece (sum_by mils_of pieces) short so_far.mils in
    subst (λ (p : Piece). before + p.mils ≤ sum_by mils_of pieces) (sym is) (omega arith)

-- what the sums of the whole keep to
charges-within-cost : (day : ℕ) (schedule : List ℕ) (nav before : ℕ) (pieces : List Piece) → sum_by (charge_of day schedule) (with_values nav before pieces) ≤ most_charged pieces day schedule
unfolding with_values
charges-within-cost day schedule nav before [] = omega arith
charges-within-cost day schedule nav before (p ∷ ps) =
    let item = item_at nav before p in
    rw (sum_by-cons (charge_of day schedule) item (with_values nav (before + p.mils) ps), sum_by-cons (cost_charge day schedule) p ps)
    (both-within (charge_of day schedule item) (sum_by (charge_of day schedule) (with_values nav (before + p.mils) ps)) (cost_charge day schedule p) (most_charged ps day schedule) _ _ (charge-cost day schedule item) (charges-within-cost day schedule nav (before + p.mils) ps) refl refl)

-- at the end the sums are those of the whole
charged-is : (sums : Charged) (v b c : ℕ) → sums.value ≡ v → sums.base ≡ b → sums.charge ≡ c → sums ≡ record { value = v; base = b; charge = c }
charged-is sums v b c e f g = rw (← e, ← f, ← g) refl

pub SoFar-end : (pieces : List Piece) (nav day : ℕ) (schedule : List ℕ) (i before : ℕ) (sums : Charged) → length pieces ≤ i
    → SoFar pieces nav day schedule i before sums → sums ≡ charge_of_pieces pieces nav day schedule
SoFar-end pieces nav day schedule i before sums done so_far =
    charged-is sums (sum_by value_of (with_values nav 0 pieces)) (sum_by base_of (with_values nav 0 pieces)) (sum_by (charge_of day schedule) (with_values nav 0 pieces))
    (sum-end value_of pieces nav before i sums.value (sum_by value_of (with_values nav 0 pieces)) done so_far.values)
    (sum-end base_of pieces nav before i sums.base (sum_by base_of (with_values nav 0 pieces)) done so_far.bases)
    (sum-end (charge_of day schedule) pieces nav before i sums.charge (sum_by (charge_of day schedule) (with_values nav 0 pieces)) done so_far.charges)

pub SoFar-cost : (pieces : List Piece) (nav day : ℕ) (schedule : List ℕ) (i before : ℕ) (sums : Charged) → length pieces ≤ i
    → SoFar pieces nav day schedule i before sums → sums.charge ≤ most_charged pieces day schedule
SoFar-cost pieces nav day schedule i before sums done so_far =
    rw (sum-end (charge_of day schedule) pieces nav before i sums.charge (sum_by (charge_of day schedule) (with_values nav 0 pieces)) done so_far.charges)
    (charges-within-cost day schedule nav 0 pieces)
