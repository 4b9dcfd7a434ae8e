-- Sums by keys that differ: together they are no more than the whole.
use Rattle.std.proofs.Common.{Bool, List, [], arith, cond, count_by, false, get_or, length, refl, suc, sum_by, true, zero, ℕ, ◌*◌, ◌+◌, ◌<◌, ◌∷◌, ◌≡◌, ◌≤◌}
use Rattle.std.proofs.Math.Nat.{mul-le-mul_left}
use Rattle.std.proofs.lemmas.List.Elements.{Contains-get_or}
use Rattle.std.proofs.lemmas.List.Sums.{sum_by-cons, sum_by-le-sum_by}
use Rattle.forward_price.proofs.OrderlyFacts.{any_from}
use Rattle.register_laws.proofs.Sums.{passing, sum-none, sums-exchange}
use Rattle.register_machine.proofs.ListItems.{any-counted}

-- each move is of one row at most
pub key-sum : {Row Move : Type 0} (match : Row → Move → Bool) (amount : Move → ℕ) (rows : List Row) (moves : List Move) → ((move : Move) → count_by (λ row. match row move) rows ≤ 1) → sum_by (λ row. sum_by (λ move. cond (match row move) (amount move) 0) moves) rows ≤ sum_by amount moves
key-sum {Move = Move} match amount rows moves once =
    let turned = sums-exchange (λ row move. cond (match row move) (amount move) 0) rows moves in
    let each = sum_by-le-sum_by (λ move. sum_by (λ row. cond (match row move) (amount move) 0) rows) amount moves one in
    omega (arith, turned, each)
  where
    one : (move : Move) → sum_by (λ row. cond (match row move) (amount move) 0) rows ≤ amount move
    one move =
        let all = passing (λ row. match row move) (amount move) rows in
        let few : amount move * count_by (λ row. match row move) rows ≤ amount move * 1 = mul-le-mul_left (amount move) (once move) in
        omega (arith, all, few)

-- the sum over a key that one row has alone is that row's
pub alone : {X : Type 0} (p : X → Bool) (f : X → ℕ) (xs : List X) (k : ℕ) (d : X) → count_by p xs ≤ 1 → k < length xs → p (get_or xs k d) ≡ true → sum_by (λ x. cond (p x) (f x) 0) xs ≡ f (get_or xs k d)
alone p f [] k d once short is = absurd (omega arith)
alone p f (x ∷ xs) zero d once short is =
    let here : ◌≡◌ {A = ℕ} (cond (p x) 1 0) 1 = rw is refl in
    let own : cond (p x) (f x) 0 ≡ f x = rw is refl in
    let none : count_by p xs ≡ 0 = omega (arith, once, here, sum_by-cons (λ y. cond (p y) 1 0) x xs) in
    omega (arith, own, sum-none f p xs none, sum_by-cons (λ y. cond (p y) (f y) 0) x xs)
alone {X = X} p f (x ∷ xs) (suc k) d once short is =
    by (p x) (alone p f xs k d) (sum_by-cons (λ y. cond (p y) 1 0) x xs) (sum_by-cons (λ y. cond (p y) (f y) 0) x xs)
  where
    within : k < length xs
    within = omega (arith, short)

    there : 1 ≤ count_by p xs
    there = any-counted p xs (any_from p xs (get_or xs k d) (Contains-get_or xs k d within) is)

    by : (first : Bool) → (count_by p xs ≤ 1 → k < length xs → p (get_or xs k d) ≡ true → sum_by (λ y. cond (p y) (f y) 0) xs ≡ f (get_or xs k d)) → count_by p (x ∷ xs) ≡ cond first 1 0 + count_by p xs → sum_by (λ y. cond (p y) (f y) 0) (x ∷ xs) ≡ cond first (f x) 0 + sum_by (λ y. cond (p y) (f y) 0) xs → sum_by (λ y. cond (p y) (f y) 0) (x ∷ xs) ≡ f (get_or xs k d)
    by true rest counted whole = absurd (omega (arith, counted, once, there))
    by false rest counted whole = omega (arith, whole, rest (omega (arith, counted, once)) within is)
