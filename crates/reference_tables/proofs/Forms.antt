-- What the form of a sheet's list gives: it rises.
use Rattle.std.proofs.Common.{All, AllPairs, List, [], arith, true, ℕ, ◌<◌, ◌∷◌, ◌≡◌}
use Rattle.std.proofs.lemmas.Bool.{and_parts, ltb-true}
use Rattle.std.proofs.lemmas.List.Elements.{All-cons, All-nil, All-weaker}
use Rattle.std.proofs.lemmas.List.Kept.{AllPairs-cons}
use Rattle.std.specs.Prelude.{nat_lt}
use Rattle.agent_events.specs.Fields.{is_rising, rises_above}
use Rattle.forward_price.specs.Turns.{IsRising}

-- above a number and rising
record RisesFrom (low : ℕ) (prices : List (ℕ × ℕ)) : Type 0 where
  above : All (λ (price : ℕ × ℕ). low < price.0) prices
  pairs : AllPairs (λ (a b : ℕ × ℕ). a.0 < b.0) prices

rises-from : (low : ℕ) (prices : List (ℕ × ℕ)) → rises_above low prices ≡ true → RisesFrom low prices
rises-from low [] e = record {
  above = All-nil (λ (price : ℕ × ℕ). low < price.0);
  pairs = λ i j d less short. absurd (omega (arith, less, short));
}
rises-from low (price ∷ rest) e =
    let parts = and_parts (nat_lt low price.0) (rises_above price.0 rest) e in
    let here = ltb-true low price.0 parts.0 in
    let later = rises-from price.0 rest parts.1 in
    record {
      above = All-cons (λ (p : ℕ × ℕ). low < p.0) price rest here
          (All-weaker (λ (p : ℕ × ℕ). price.0 < p.0) (λ (p : ℕ × ℕ). low < p.0) (λ p less. omega (arith, here, less)) rest later.above);
      pairs = AllPairs-cons (λ (a b : ℕ × ℕ). a.0 < b.0) price rest later.above later.pairs;
    }

pub list_rises : (prices : List (ℕ × ℕ)) → is_rising prices ≡ true → IsRising prices
list_rises prices e = (rises-from 0 prices e).pairs
