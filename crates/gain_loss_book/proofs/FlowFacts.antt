-- What a flow added to that of a number leaves, and what all flows add up to.
use Rattle.std.specs.HashMap as hash
use Rattle.std.proofs.Common.{Bool, IfOk, List, None, Ok, Option, Result, Some, [], ap, arith, cond, false, inl, inr, nat_eq, option_map, refl, subst, sum_by, sym, true, unwrap_or, ℕ, ◌∙◌, ◌∷◌, ◌≡◌, ◌≤◌}
use Rattle.std.specs.List.Sorted.{IsPermutation}
use Rattle.std.specs.Map.{lookup, set_value, values_of}
use Rattle.std.proofs.lemmas.Bool.Decides.{eqb_tells}
use Rattle.std.proofs.lemmas.List.Sums.{sum_by-cons}
use Rattle.std.proofs.lemmas.Map.Entries.{sum_by-set_value, sum_by_puts_entry, sum_by_values_permutation}
use Rattle.gain_loss_book.specs.Flows.{flow_at, no_flow, whole_flow, with_flow}
use Rattle.gain_loss_book.specs.declared.flows.Flow.{Flow}

-- the flow of a number, where more is put at one number
pub put-flow : (f : ℕ → Option Flow) (k : ℕ) (flow : Flow) (q : ℕ) → unwrap_or (cond (nat_eq k q) (Some (with_flow (unwrap_or (f k) no_flow) flow)) (f q)) no_flow ≡ cond (nat_eq k q) (with_flow (unwrap_or (f q) no_flow) flow) (unwrap_or (f q) no_flow)
put-flow f k flow q = elim (eqb_tells k q) [
  | inl (is, same) ↦ rw is (ap (λ n. with_flow (unwrap_or (f n) no_flow) flow) same)
  | inr (is, apart) ↦ rw is refl
]

-- one flow is within all of them
pub flow-within : (f : Flow → ℕ) → f no_flow ≡ 0 → (test : ℕ → Bool) (rows : List (ℕ × Flow)) → f (unwrap_or (lookup test rows) no_flow) ≤ sum_by f (values_of rows)
flow-within f none test [] = omega (arith, none)
flow-within f none test (row ∷ rows) =
    let added = sum_by-cons f row.1 (values_of rows) in
    let rest = flow-within f none test rows in
    elim (test row.0) as (λ b. f (unwrap_or (cond b (Some row.1) (lookup test rows)) no_flow) ≤ sum_by f (row.1 ∷ values_of rows)) [
      | true ↦ omega (arith, added)
      | false ↦ omega (arith, added, rest)
    ]

-- the old value of a number, or nothing
pub old-side : (f : Flow → ℕ) → f no_flow ≡ 0 → (old : Option Flow) → unwrap_or (option_map f old) 0 ≡ f (unwrap_or old no_flow)
old-side f none None = sym none
old-side f none (Some flow) = refl

pub flow-same : (a b : Flow) → a.inflow ≡ b.inflow → a.outflow ≡ b.outflow → a ≡ b
flow-same a b inflow outflow =
    let with_inflow = λ (n : ℕ). let flow : Flow = record { inflow = n; outflow = a.outflow } in flow in
    let with_outflow = λ (n : ℕ). let flow : Flow = record { inflow = b.inflow; outflow = n } in flow in
    ap with_inflow inflow ∙ ap with_outflow outflow

-- what a map has after a flow is put: all flows, and that one
pub put-whole : {S E : Type 0} (m n : hash.HashMap ℕ Flow S) (k : ℕ) (r : Result (Option Flow) E) (old : Option Flow) (was value flow : Flow) → r ≡ Ok old → IfOk r (λ o. o ≡ hash.get nat_eq m k) → IfOk r (λ o. hash.PutsEntry nat_eq m n k value o) → was ≡ flow_at m.entries k → value ≡ with_flow was flow → whole_flow n.entries ≡ with_flow (whole_flow m.entries) flow
put-whole {S} {E} m n k r old was value flow done is puts was_is value_is =
    let found : old ≡ hash.get nat_eq m k = subst (λ (x : Result (Option Flow) E). IfOk x (λ o. o ≡ hash.get nat_eq m k)) done is in
    let put : hash.PutsEntry nat_eq m n k value old = subst (λ (x : Result (Option Flow) E). IfOk x (λ o. hash.PutsEntry nat_eq m n k value o)) done puts in
    let was_old : was ≡ unwrap_or old no_flow = was_is ∙ ap (λ o. unwrap_or o no_flow) (sym found) in
    let inflow = sum_by_puts_entry (λ (f : Flow). f.inflow) nat_eq m n k value old found put in
    let outflow = sum_by_puts_entry (λ (f : Flow). f.outflow) nat_eq m n k value old found put in
    let in_old = old-side (λ f. f.inflow) refl old in
    let out_old = old-side (λ f. f.outflow) refl old in
    let in_was = ap (λ (f : Flow). f.inflow) was_old in
    let out_was = ap (λ (f : Flow). f.outflow) was_old in
    let in_value = ap (λ (f : Flow). f.inflow) value_is in
    let out_value = ap (λ (f : Flow). f.outflow) value_is in
    flow-same (whole_flow n.entries) (with_flow (whole_flow m.entries) flow)
    (omega (arith, inflow, in_old, in_was, in_value)) (omega (arith, outflow, out_old, out_was, out_value))

-- the order of rows doesn't tell in all flows
pub reordered-whole : (rows others : List (ℕ × Flow)) → IsPermutation rows others → whole_flow others ≡ whole_flow rows
reordered-whole rows others same =
    flow-same (whole_flow others) (whole_flow rows)
    (sum_by_values_permutation (λ (f : Flow). f.inflow) rows others same)
    (sum_by_values_permutation (λ (f : Flow). f.outflow) rows others same)

-- and where a flow is written over another
pub set-whole : (test : ℕ → Bool) (rows : List (ℕ × Flow)) (old value flow : Flow) → lookup test rows ≡ Some old → value ≡ with_flow old flow → whole_flow (set_value test rows value) ≡ with_flow (whole_flow rows) flow
set-whole test rows old value flow found is =
    let inflow = sum_by-set_value (λ (f : Flow). f.inflow) test rows old value found in
    let outflow = sum_by-set_value (λ (f : Flow). f.outflow) test rows old value found in
    flow-same (whole_flow (set_value test rows value)) (with_flow (whole_flow rows) flow)
    (omega (arith, inflow, ap (λ (f : Flow). f.inflow) is)) (omega (arith, outflow, ap (λ (f : Flow). f.outflow) is))
