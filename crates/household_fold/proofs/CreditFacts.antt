-- The credit of an account, position by position.
use Rattle.std.proofs.Common.{Bool, List, None, Option, Some, [], ap, arith, cond, false, filter, is_some, map, refl, sum_by, sym, true, zero-add, ℕ, ◌+◌, ◌==◌, ◌∙◌, ◌∷◌, ◌≡◌}
use Rattle.std.proofs.lemmas.Bool.Decides.{nat_tests}
use Rattle.std.specs.Option.{option_map_or}
use Rattle.std.proofs.lemmas.List.Sums.{sum_by-cons}
use Rattle.forward_price.specs.declared.price_sheet.Sheet.{Sheet}
use Rattle.offering_price.specs.Accumulation.{credit, worth}
use Rattle.register_machine.specs.pricing.CorrectedBook.{Book}
use Rattle.register_machine.specs.replay.Positions.{Register}
use Rattle.register_machine.specs.replay.Purchase.{is_counted, worth_on}
use Rattle.household_fold.specs.Credits.{position_credit}

-- what is made of the elements that pass, summed
sum-one : {X Y : Type 0} (n : Y → ℕ) (f : X → Y) (p : X → Bool) (x : X) (xs : List X) (rest : ℕ) → sum_by n (map f (filter p xs)) ≡ rest → (b : Bool) → sum_by n (map f (cond b (x ∷ filter p xs) (filter p xs))) ≡ cond b (n (f x)) 0 + rest
sum-one n f p x xs rest e true = sum_by-cons n (f x) (map f (filter p xs)) ∙ ap (λ s. n (f x) + s) e
sum-one n f p x xs rest e false = e ∙ sym (zero-add rest)

sum-passing : {X Y : Type 0} (n : Y → ℕ) (f : X → Y) (p : X → Bool) (xs : List X) → sum_by n (map f (filter p xs)) ≡ sum_by (λ x. cond (p x) (n (f x)) 0) xs
sum-passing n f p [] = refl
sum-passing n f p (x ∷ xs) =
    sum-one n f p x xs (sum_by (λ x. cond (p x) (n (f x)) 0) xs) (sum-passing n f p xs) (p x)
    ∙ sym (sum_by-cons (λ x. cond (p x) (n (f x)) 0) x xs)

pub credit-summed : (book : Book) (sheet : Sheet) (household : Option ℕ) (register : Register) → credit (map (worth_on book sheet) (filter (is_counted book household) register)) ≡ sum_by (position_credit book sheet household) register
credit-summed book sheet household register = sum-passing worth (worth_on book sheet) (is_counted book household) register

same-number : (n : ℕ) → true ≡ (n == n)
same-number n = grind (arith, nat_tests)

-- an account is of its own household, where it has one
pub own-owned : (household found : Option ℕ) → household ≡ found → is_some household ≡ option_map_or (λ owner. option_map_or (λ other. other == owner) found false) household false
own-owned None found is = refl
own-owned (Some owner) found is =
    same-number owner ∙ ap (λ o. option_map_or (λ other. other == owner) o false) is
