-- The cash of all holders that is kept is the sum of theirs: each row counts once among the accounts, and one of no account is
-- even.
use Rattle.std.proofs.Common.{Bool, List, Some, [], ap, arith, cond, count_by, false, fold, inl, inr, nat_eq, pos, refl, sum_by, sym, true, unwrap_or, ℕ, ℤ, ◌*◌, ◌+◌, ◌+ℤ◌, ◌-ℤ◌, ◌==◌, ◌||◌, ◌∙◌, ◌∷◌, ◌≡◌, ◌≤◌}
use Rattle.std.proofs.lemmas.Bool.Decides.{eqb_tells}
use Rattle.std.proofs.lemmas.Int.{ints}
use Rattle.std.proofs.lemmas.Bool.{true≢false}
use Rattle.std.proofs.lemmas.Map.Keys.{IsDistinct-head, IsDistinct-tail}
use Rattle.std.proofs.lemmas.List.Sums.{length-filter, sum_by-cons}
use Rattle.std.specs.List.{AllByRecursion, IsDistinct, list_any}
use Rattle.std.specs.Map.{keys_of, lookup, values_of}
use Rattle.agent_events.specs.declared.order.Party.{Party}
use Rattle.agent_events.specs.declared.request.AccountForm.{AccountForm}
use Rattle.holder_statements.specs.KeptBooks.{HoldersTogether}
use Rattle.gain_loss_book.specs.Flows.{flow_at, inflows, net, no_flow, outflows}
use Rattle.gain_loss_book.specs.Posted.{Books, cash_held}
use Rattle.gain_loss_book.specs.declared.flows.Flow.{Flow}
use Rattle.register_laws.proofs.CashBalances.{differences}
use Rattle.register_laws.proofs.Sums.{passing, sum-plus}
use Rattle.register_laws.specs.Identities.{AtMostOne, has_number}
use Rattle.register_machine.specs.corrections.Cash.{Movement, balance}

-- a number that has no row has no flow
nothing-at : (number : ℕ) (rows : List (ℕ × Flow)) → AllByRecursion (λ key. nat_eq number key ≡ false) (keys_of rows) → flow_at rows number ≡ no_flow
nothing-at number [] apart = refl
nothing-at number (row ∷ rows) apart =
    ap (λ b. unwrap_or (cond b (Some row.1) (lookup (nat_eq number) rows)) no_flow) apart.0
    ∙ nothing-at number rows apart.1

-- the row of a number counts where the number is its own
first-row : (side : Flow → ℕ) → side no_flow ≡ 0 → (row : ℕ × Flow) (rows : List (ℕ × Flow)) → AllByRecursion (λ key. nat_eq row.0 key ≡ false) (keys_of rows) → (number : ℕ) → side (flow_at (row ∷ rows) number) ≡ cond (number == row.0) (side row.1) 0 + side (flow_at rows number)
first-row side void row rows apart number = elim (eqb_tells number row.0) [
  | inl (is, same) ↦
      (let none : side (flow_at rows number) ≡ 0 = ap (λ n. side (flow_at rows n)) same ∙ (ap side (nothing-at row.0 rows apart) ∙ void) in
      let own : side (flow_at (row ∷ rows) number) ≡ side row.1 = ap (λ b. side (unwrap_or (cond b (Some row.1) (lookup (nat_eq number) rows)) no_flow)) is in
      let counts : cond (number == row.0) (side row.1) 0 ≡ side row.1 = ap (λ b. cond b (side row.1) 0) is in
      omega (arith, none, own, counts))
  | inr (is, differs) ↦
      (let own : side (flow_at (row ∷ rows) number) ≡ side (flow_at rows number) = ap (λ b. side (unwrap_or (cond b (Some row.1) (lookup (nat_eq number) rows)) no_flow)) is in
      let counts : cond (number == row.0) (side row.1) 0 ≡ 0 = ap (λ b. cond b (side row.1) 0) is in
      omega (arith, own, counts))
]

none-at-all : (side : Flow → ℕ) → side no_flow ≡ 0 → (accounts : List AccountForm) → sum_by (λ account. side (flow_at [] account.account)) accounts ≡ 0
none-at-all side void [] = refl
none-at-all side void (x ∷ xs) =
    omega (arith, sum_by-cons (λ (account : AccountForm). side (flow_at [] account.account)) x xs, void, none-at-all side void xs)

-- over accounts a row counts as often as its number is that of an account
one-side : (side : Flow → ℕ) → side no_flow ≡ 0 → (accounts : List AccountForm) (row : ℕ × Flow) (rows : List (ℕ × Flow)) → AllByRecursion (λ key. nat_eq row.0 key ≡ false) (keys_of rows) → sum_by (λ account. side (flow_at (row ∷ rows) account.account)) accounts ≡ side row.1 * count_by (has_number row.0) accounts + sum_by (λ account. side (flow_at rows account.account)) accounts
one-side side void accounts row rows apart =
    omega (arith, sum-plus (λ (account : AccountForm). cond (account.account == row.0) (side row.1) 0) (λ (account : AccountForm). side (flow_at rows account.account)) (λ (account : AccountForm). side (flow_at (row ∷ rows) account.account)) (λ account. first-row side void row rows apart account.account) accounts, passing (has_number row.0) (side row.1) accounts)

-- who has no account received what he paid
abbrev OthersAreEven : List AccountForm → List (ℕ × Flow) → Type 0
OthersAreEven accounts rows =
    (number : ℕ) → list_any (has_number number) accounts ≡ false → (flow_at rows number).inflow ≡ (flow_at rows number).outflow

even-behind : (accounts : List AccountForm) (row : ℕ × Flow) (rows : List (ℕ × Flow)) → AllByRecursion (λ key. nat_eq row.0 key ≡ false) (keys_of rows) → OthersAreEven accounts (row ∷ rows) → OthersAreEven accounts rows
even-behind accounts row rows apart even number other = elim (eqb_tells number row.0) [
  | inl (is, same) ↦
      (let none : flow_at rows number ≡ no_flow = ap (flow_at rows) same ∙ nothing-at row.0 rows apart in
      ap (λ (f : Flow). f.inflow) none ∙ sym (ap (λ (f : Flow). f.outflow) none))
  | inr (is, differs) ↦
      (let later : flow_at (row ∷ rows) number ≡ flow_at rows number = ap (λ b. unwrap_or (cond b (Some row.1) (lookup (nat_eq number) rows)) no_flow) is in
      sym (ap (λ (f : Flow). f.inflow) later) ∙ (even number other ∙ ap (λ (f : Flow). f.outflow) later))
]

own-flow : (row : ℕ × Flow) (rows : List (ℕ × Flow)) → flow_at (row ∷ rows) row.0 ≡ row.1
own-flow row rows = elim (eqb_tells row.0 row.0) [
  | inl (is, same) ↦ ap (λ b. unwrap_or (cond b (Some row.1) (lookup (nat_eq row.0) rows)) no_flow) is
  | inr (is, differs) ↦ absurd (differs refl)
]

some-count : (p : AccountForm → Bool) (xs : List AccountForm) → list_any p xs ≡ true → 1 ≤ count_by p xs
some-count p [] e = absurd (true≢false (sym e))
some-count p (x ∷ xs) e = by_one (p x) (some-count p xs) e (sum_by-cons (λ y. cond (p y) 1 0) x xs)
  where
    by_one : (here : Bool) → (list_any p xs ≡ true → 1 ≤ count_by p xs) → (here || list_any p xs) ≡ true → count_by p (x ∷ xs) ≡ cond here 1 0 + count_by p xs → 1 ≤ count_by p (x ∷ xs)
    by_one true later h s = omega (arith, s)
    by_one false later h s = omega (arith, s, later h)

none-count : (p : AccountForm → Bool) (xs : List AccountForm) → list_any p xs ≡ false → count_by p xs ≡ 0
none-count p [] e = refl
none-count p (x ∷ xs) e = by_one (p x) (none-count p xs) e (sum_by-cons (λ y. cond (p y) 1 0) x xs)
  where
    by_one : (here : Bool) → (list_any p xs ≡ false → count_by p xs ≡ 0) → (here || list_any p xs) ≡ false → count_by p (x ∷ xs) ≡ cond here 1 0 + count_by p xs → count_by p (x ∷ xs) ≡ 0
    by_one true later h s = absurd (true≢false h)
    by_one false later h s = omega (arith, s, later h)

-- what all accounts received and all rows paid is what all accounts paid and all rows received
sides-sum : (accounts : List AccountForm) → ((number : ℕ) → AtMostOne (has_number number) accounts) → (rows : List (ℕ × Flow)) → IsDistinct nat_eq (keys_of rows) → OthersAreEven accounts rows → sum_by (λ account. (flow_at rows account.account).inflow) accounts + outflows rows ≡ sum_by (λ account. (flow_at rows account.account).outflow) accounts + inflows rows
sides-sum accounts once [] distinct even =
    omega (arith, none-at-all (λ flow. flow.inflow) refl accounts, none-at-all (λ flow. flow.outflow) refl accounts)
sides-sum accounts once (row ∷ rows) distinct even =
    let apart = IsDistinct-head nat_eq row.0 (keys_of rows) distinct in
    let came = one-side (λ flow. flow.inflow) refl accounts row rows apart in
    let went = one-side (λ flow. flow.outflow) refl accounts row rows apart in
    let rest = sides-sum accounts once rows (IsDistinct-tail nat_eq row.0 (keys_of rows) distinct) (even-behind accounts row rows apart even) in
    let in_rows = sum_by-cons (λ (f : Flow). f.inflow) row.1 (values_of rows) in
    let out_rows = sum_by-cons (λ (f : Flow). f.outflow) row.1 (values_of rows) in
    elim (list_any (has_number row.0) accounts) as (λ b. list_any (has_number row.0) accounts ≡ b → sum_by (λ account. (flow_at (row ∷ rows) account.account).inflow) accounts + outflows (row ∷ rows) ≡ sum_by (λ account. (flow_at (row ∷ rows) account.account).outflow) accounts + inflows (row ∷ rows)) [
      | true ↦ λ there.
          (let some = some-count (has_number row.0) accounts there in
          let one : count_by (has_number row.0) accounts ≡ 1 = omega (arith, some, length-filter (has_number row.0) accounts, once row.0) in
          let first : row.1.inflow * count_by (has_number row.0) accounts ≡ row.1.inflow = rw one (omega arith) in
          let second : row.1.outflow * count_by (has_number row.0) accounts ≡ row.1.outflow = rw one (omega arith) in
          omega (arith, came, went, rest, in_rows, out_rows, first, second))
      | false ↦ λ other.
          (let none = none-count (has_number row.0) accounts other in
          let first : row.1.inflow * count_by (has_number row.0) accounts ≡ 0 = rw none (omega arith) in
          let second : row.1.outflow * count_by (has_number row.0) accounts ≡ 0 = rw none (omega arith) in
          let own = own-flow row rows in
          let alike : row.1.inflow ≡ row.1.outflow = sym (ap (λ (f : Flow). f.inflow) own) ∙ (even row.0 other ∙ ap (λ (f : Flow). f.outflow) own) in
          omega (arith, came, went, rest, in_rows, out_rows, first, second, alike))
    ] refl

even-net : (i o : ℕ) → pos i -ℤ pos o ≡ pos 0 → i ≡ o
even-net i o e = omega (arith, ints, e)

nets-together : (flow : ℕ → Flow) (accounts : List AccountForm) (i o : ℕ) → fold (λ so_far account. so_far +ℤ net (flow account.account)) (pos i -ℤ pos o) accounts ≡ pos (i + sum_by (λ account. (flow account.account).inflow) accounts) -ℤ pos (o + sum_by (λ account. (flow account.account).outflow) accounts)
nets-together flow [] i o = omega (arith, ints)
nets-together flow (x ∷ xs) i o =
    let first = sum_by-cons (λ (account : AccountForm). (flow account.account).inflow) x xs in
    let second = sum_by-cons (λ (account : AccountForm). (flow account.account).outflow) x xs in
    ap (λ z. fold (λ so_far (account : AccountForm). so_far +ℤ net (flow account.account)) z xs) (differences i o (flow x.account).inflow (flow x.account).outflow)
    ∙ (nets-together flow xs (i + (flow x.account).inflow) (o + (flow x.account).outflow) ∙ omega (arith, ints, first, second))

same-steps : (f g : ℕ → ℤ) → ((n : ℕ) → f n ≡ g n) → (accounts : List AccountForm) (z : ℤ) → fold (λ so_far account. so_far +ℤ f account.account) z accounts ≡ fold (λ so_far account. so_far +ℤ g account.account) z accounts
same-steps f g same [] z = refl
same-steps f g same (x ∷ xs) z =
    ap (λ n. fold (λ so_far (account : AccountForm). so_far +ℤ f account.account) (z +ℤ n) xs) (same x.account)
    ∙ same-steps f g same xs (z +ℤ g x.account)

pub holders_together : (accounts : List AccountForm) (movements : List Movement) (books : Books) → HoldersTogether accounts movements books
holders_together accounts movements books once holders cash =
    let flows = books.accounts.holders.rows in
    let sides = sides-sum accounts holders.once flows once (λ number other. even-net (flow_at flows number).inflow (flow_at flows number).outflow (cash number ∙ holders.others number other)) in
    let summed = nets-together (flow_at flows) accounts 0 0 in
    let steps = same-steps (λ n. balance movements (Party.Holder n)) (λ n. cash_held books (Party.Holder n)) (λ n. sym (cash n)) accounts (pos 0) in
    sym (steps ∙ (summed ∙ omega (arith, ints, sides)))
