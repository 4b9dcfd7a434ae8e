-- What holds of letters of intent over plain numbers and lists.
use Rattle.std.proofs.Common.{◌≡◌, ℕ, ◌+◌, ◌-◌, ◌*◌, ◌<◌, ◌≤◌, List, [], ◌∷◌, None, refl, arith}
use Rattle.std.proofs.lemmas.List.Sums.{sum_by-cons}
use Rattle.money_units.specs.Rounding.{half}
use Rattle.money_units.proofs.RoundingFacts.{half-zero, ceil-le}
use Rattle.class_terms.specs.declared.lists.Bracket.{Bracket}
use Rattle.class_terms.specs.Tables.{front_fault}
use Rattle.offering_price.specs.Accumulation.{bracket}
use Rattle.offering_price.proofs.RateFacts.{bracket-ceiling, bracket-falls}
use Rattle.letter_of_intent.specs.declared.letter.Letter.{Letter}
use Rattle.letter_of_intent.specs.Letters.{IsLetter, new_letter, rate_earned, load_due, mils_to_pay}
use Rattle.letter_of_intent.specs.Purchases.{Purchase, after, after_all, gross_total, mils_total, held_total}

-- one purchase after another
pub bought_after_all : (letter : Letter) (purchases : List Purchase)
    → (after_all letter purchases).bought ≡ letter.bought + gross_total purchases
bought_after_all letter [] = omega arith
bought_after_all letter (p ∷ ps) =
    let first : gross_total (p ∷ ps) ≡ p.gross + gross_total ps = sum_by-cons _ p ps in
    let others : (after_all letter (p ∷ ps)).bought ≡ (letter.bought + p.gross) + gross_total ps =
    bought_after_all (after letter p) ps in
    omega arith

pub bought_begun : (amount day start : ℕ) (front : List Bracket) (purchases : List Purchase)
    → (after_all (new_letter amount day start front) purchases).bought ≡ gross_total purchases
bought_begun amount day start front purchases =
    let since : (after_all (new_letter amount day start front) purchases).bought ≡ 0 + gross_total purchases =
    bought_after_all (new_letter amount day start front) purchases in
    omega arith

pub rest_after_all : (letter : Letter) (purchases : List Purchase) → (after_all letter purchases).rest ≤ letter.rest
rest_after_all letter [] = omega arith
rest_after_all letter (p ∷ ps) = omega (arith, rest_after_all (after letter p) ps)

pub same_after_all : (letter : Letter) (purchases : List Purchase) → after_all letter purchases
    ≡ record letter { rest = (after_all letter purchases).rest; bought = (after_all letter purchases).bought }
same_after_all letter [] = refl
same_after_all letter (p ∷ ps) = same_after_all (after letter p) ps

pub stays-after : (letter : Letter) (p : Purchase) → IsLetter letter → letter.bought + p.gross < letter.amount
    → IsLetter (after letter p)
stays-after letter p h short = record {
  some_amount = h.some_amount;
  amount = h.amount;
  rate = h.rate;
  rest = omega (arith, h.rest);
  start = h.start;
  short = short;
}

pub stays_after_all : (letter : Letter) (purchases : List Purchase) → IsLetter letter
    → letter.bought + gross_total purchases < letter.amount → IsLetter (after_all letter purchases)
stays_after_all letter [] h short = h
stays_after_all letter (p ∷ ps) h short =
    let first : gross_total (p ∷ ps) ≡ p.gross + gross_total ps = sum_by-cons _ p ps in
    stays_after_all (after letter p) ps (stays-after letter p h (omega arith)) (omega arith)

-- the rate that the purchases have earned
pub rate_ceiling : (front : List Bracket) (letter : Letter) → front_fault front ≡ None → letter.rate ≤ 850
    → rate_earned front letter ≤ 850
rate_ceiling front letter lawful ceiling =
    omega (arith, bracket-ceiling front (letter.start + letter.bought) lawful)

pub rate-reached : (front : List Bracket) (letter : Letter) → front_fault front ≡ None
    → letter.rate ≡ bracket front letter.amount → letter.amount ≤ letter.start + letter.bought
    → rate_earned front letter ≡ letter.rate
rate-reached front letter lawful rate reached =
    omega (arith, rate, bracket-falls front letter.amount (letter.start + letter.bought) lawful reached)

nothing-due : (bought earned rate : ℕ) → earned ≡ rate → half (bought * (earned - rate)) 10000 ≡ 0
nothing-due bought earned rate same =
    let level : earned - rate ≡ 0 = omega arith in
    let none : bought * (earned - rate) ≡ 0 = rw level (omega arith) in
    rw none (half-zero 10000 (omega arith))

pub due-reached : (front : List Bracket) (letter : Letter) → front_fault front ≡ None
    → letter.rate ≡ bracket front letter.amount → letter.amount ≤ letter.start + letter.bought → load_due front letter ≡ 0
due-reached front letter lawful rate reached =
    nothing-due letter.bought (rate_earned front letter) letter.rate (rate-reached front letter lawful rate reached)

pub nothing-to-pay : (due nav held : ℕ) → 1 ≤ nav → due ≡ 0 → mils_to_pay due nav held ≡ 0
nothing-to-pay due nav held some none =
    rw none (omega (arith, ceil-le 0 nav 0 some (omega arith)))

-- the mils held over all purchases
pub held_within : (letter : Letter) (purchases : List Purchase) → held_total letter purchases ≤ mils_total purchases
held_within letter [] = omega arith
held_within letter (p ∷ ps) =
    let first : mils_total (p ∷ ps) ≡ p.mils + mils_total ps = sum_by-cons _ p ps in
    omega (arith, held_within (after letter p) ps)
