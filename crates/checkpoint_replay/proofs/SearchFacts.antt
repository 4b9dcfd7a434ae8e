-- What a search in numbers that never fall finds.
use Rattle.std.proofs.Common.{AllPairs, List, arith, false, get_or, inl, inr, leb, ltb, true, ℕ, ◌<◌, ◌≡◌, ◌≤◌}
use Rattle.std.proofs.lemmas.Bool.{cases_lt, leb-false, leb-true, ltb-false, ltb-true}
use Rattle.std.specs.List.Sorted.{IsNonDecreasingBy, IsPartitionPoint}

-- each number is at most each later one, and itself
pub non_falling : (numbers : List ℕ) → AllPairs (λ a b. a ≤ b) numbers → IsNonDecreasingBy (λ n. n) numbers
non_falling numbers rise i j d le short = elim (cases_lt i j) [
  | inl lt ↦ rise i j d lt short
  | inr ge ↦ let same : i ≡ j = omega arith in rw same (omega arith)
]

-- the place by a test is that by the order
pub below_from : (numbers : List ℕ) (number place : ℕ) → IsPartitionPoint (λ n. ltb n number ≡ true) (λ n. ltb n number ≡ false) numbers place → IsPartitionPoint (λ n. n < number) (λ n. number ≤ n) numbers place
below_from numbers number place point = (
  λ k d lo lt. ltb-true (get_or numbers k d) number (point.0 k d lo lt),
  λ k d lo lt. ltb-false (get_or numbers k d) number (point.1 k d lo lt),
)

pub up_to_from : (numbers : List ℕ) (number place : ℕ) → IsPartitionPoint (λ n. leb n number ≡ true) (λ n. leb n number ≡ false) numbers place → IsPartitionPoint (λ n. n ≤ number) (λ n. number < n) numbers place
up_to_from numbers number place point = (
  λ k d lo lt. leb-true (get_or numbers k d) number (point.0 k d lo lt),
  λ k d lo lt. leb-false (get_or numbers k d) number (point.1 k d lo lt),
)
