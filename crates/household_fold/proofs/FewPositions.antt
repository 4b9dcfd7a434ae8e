-- A register of a household's accounts has few positions: one at most for each of its accounts and each class.
use Rattle.std.proofs.Common.{All, Bool, List, Some, [], ap, arith, cond, false, filter, find, get_or, is_some, length, map, nat_lt, refl, sum_by, sym, true, ℕ, ◌&&◌, ◌*◌, ◌==◌, ◌||◌, ◌∷◌, ◌≡◌, ◌≤◌}
use Rattle.std.proofs.lemmas.Bool.{and_from, eq-eqb, eqb-true, true≢false}
use Rattle.std.proofs.lemmas.Bool.Decides.{nat_tests}
use Rattle.std.proofs.lemmas.List.Elements.{All-head, All-tail}
use Rattle.std.proofs.lemmas.List.Sums.{length-filter, sum_by-cons}
use Rattle.std.specs.Prelude.{option_map}
use Rattle.agent_events.specs.declared.request.AccountForm.{AccountForm}
use Rattle.agent_events.specs.declared.rows.AccountRow.{AccountRow}
use Rattle.class_terms.specs.declared.form.TermsForm.{TermsForm}
use Rattle.household_fold.specs.Facts.{FactsFit, Known, account_in_book, terms_numbered}
use Rattle.household_fold.specs.Households.{AreOwned, IsOwnPlace}
use Rattle.household_fold.specs.Limits.{AreFew}
use Rattle.household_positions.specs.Register.{AreInOrder, IsRegister}
use Rattle.register_machine.proofs.SumFacts.{sums-exchange}
use Rattle.register_machine.specs.replay.Positions.{Position, Register, is_position, stands_before}
use Rattle.share_lots.proofs.LotLemmas.{AllPairs-head, AllPairs-tail}

-- ---- sums

sum-most : {X : Type 0} (f : X → ℕ) (m : ℕ) → ((x : X) → f x ≤ m) → (xs : List X) → sum_by f xs ≤ length xs * m
sum-most f m most [] = omega arith
sum-most f m most (x ∷ xs) = omega (arith, sum_by-cons f x xs, most x, sum-most f m most xs)

sum-least : {X : Type 0} (f : X → ℕ) (xs : List X) → All (λ x. 1 ≤ f x) xs → length xs ≤ sum_by f xs
sum-least f [] all = omega arith
sum-least f (x ∷ xs) all =
    omega (arith, sum_by-cons f x xs, All-head (λ x. 1 ≤ f x) x xs all, sum-least f xs (All-tail (λ x. 1 ≤ f x) x xs all))

-- ---- one position at most in a place

later-apart : (a b c d : ℕ) → (nat_lt a c || (a == c && nat_lt b d)) ≡ true → (m n : ℕ) → (a == m && b == n) ≡ true → (c == m && d == n) ≡ false
later-apart a b c d = grind (arith, nat_tests)

abbrev at_place : ℕ → ℕ → Position → ℕ
at_place a c x = cond (is_position a c x) 1 0

none-there : (a c : ℕ) (xs : Register) → All (λ x. is_position a c x ≡ false) xs → sum_by (at_place a c) xs ≡ 0
none-there a c [] all = refl
none-there a c (x ∷ xs) all =
    let here : at_place a c x ≡ 0 = ap (λ b. cond b 1 0) (All-head (λ x. is_position a c x ≡ false) x xs all) in
    omega (arith, sum_by-cons (at_place a c) x xs, here, none-there a c xs (All-tail (λ x. is_position a c x ≡ false) x xs all))

once : (a c : ℕ) (xs : Register) → AreInOrder xs → sum_by (at_place a c) xs ≤ 1
once a c [] ordered = omega arith
once a c (x ∷ xs) ordered =
    let behind = AllPairs-head (λ p q. stands_before p q ≡ true) x xs ordered in
    let rest = once a c xs (AllPairs-tail (λ p q. stands_before p q ≡ true) x xs ordered) in
    elim (is_position a c x) as (λ b. is_position a c x ≡ b → sum_by (at_place a c) (x ∷ xs) ≤ 1) [
      | true ↦ λ e.
          let here : at_place a c x ≡ 1 = ap (λ b. cond b 1 0) e in
          let none : sum_by (at_place a c) xs ≡ 0 = none-there a c xs (λ k d short. let y = get_or xs k d in later-apart x.account x.class y.account y.class (behind k d short) a c e) in
          omega (arith, sum_by-cons (at_place a c) x xs, here, none)
      | false ↦ λ e.
          let here : at_place a c x ≡ 0 = ap (λ b. cond b 1 0) e in
          omega (arith, sum_by-cons (at_place a c) x xs, here, rest)
    ] refl

-- ---- each position is in one of the places

own-row : (accounts : List AccountRow) (n h : ℕ) (g : AccountRow → ℕ) → option_map (λ (form : AccountForm). form.household) (find (λ (form : AccountForm). form.account == n) (map account_in_book accounts)) ≡ Some h → ((row : AccountRow) → row.account ≡ n → 1 ≤ g row) → 1 ≤ sum_by g (filter (λ row. row.household == h) accounts)
own-row [] n h g owner least = absurd (cc)
own-row (row ∷ rows) n h g owner least =
    elim (row.account == n) as (λ b. (row.account == n) ≡ b → option_map (λ (form : AccountForm). form.household) (cond b (Some (account_in_book row)) (find (λ (form : AccountForm). form.account == n) (map account_in_book rows))) ≡ Some h → 1 ≤ sum_by g (filter (λ r. r.household == h) (row ∷ rows))) [
      | true ↦ λ e found.
          let same : row.household ≡ h = cc in
          let kept : filter (λ (r : AccountRow). r.household == h) (row ∷ rows) ≡ row ∷ filter (λ (r : AccountRow). r.household == h) rows =
          ap (λ b. cond b (row ∷ filter (λ (r : AccountRow). r.household == h) rows) (filter (λ (r : AccountRow). r.household == h) rows)) (eq-eqb row.household h same) in
          omega (arith, ap (sum_by g) kept, sum_by-cons g row (filter (λ (r : AccountRow). r.household == h) rows), least row (eqb-true row.account n e))
      | false ↦ λ e found. more (row.household == h) (own-row rows n h g found least)
    ] refl owner
  where
    more : (b : Bool) → 1 ≤ sum_by g (filter (λ (r : AccountRow). r.household == h) rows) → 1 ≤ sum_by g (cond b (row ∷ filter (λ (r : AccountRow). r.household == h) rows) (filter (λ (r : AccountRow). r.household == h) rows))
    more true some = omega (arith, sum_by-cons g row (filter (λ (r : AccountRow). r.household == h) rows), some)
    more false some = some

own-terms : (terms : List TermsForm) (c : ℕ) (g : TermsForm → ℕ) → is_some (terms_numbered terms c) ≡ true → ((row : TermsForm) → row.class ≡ c → 1 ≤ g row) → 1 ≤ sum_by g terms
own-terms [] c g there least = absurd (true≢false (sym there))
own-terms (row ∷ rows) c g there least =
    elim (row.class == c) as (λ b. (row.class == c) ≡ b → is_some (cond b (Some row) (terms_numbered rows c)) ≡ true → 1 ≤ sum_by g (row ∷ rows)) [
      | true ↦ λ e found. omega (arith, sum_by-cons g row rows, least row (eqb-true row.class c e))
      | false ↦ λ e found. omega (arith, sum_by-cons g row rows, own-terms rows c g found least)
    ] refl there

placed : (known : Known) (household : ℕ) (x : Position) → IsOwnPlace known household x.account x.class → 1 ≤ sum_by (λ (a : AccountRow). sum_by (λ (t : TermsForm). at_place a.account t.class x) known.terms) (filter (λ row. row.household == household) known.accounts)
placed known household x own =
    own-row known.accounts x.account household (λ (a : AccountRow). sum_by (λ (t : TermsForm). at_place a.account t.class x) known.terms) own.owner
    (λ a account. own-terms known.terms x.class (λ (t : TermsForm). at_place a.account t.class x) own.terms
    (λ t class. here a t account class))
  where
    here : (a : AccountRow) (t : TermsForm) → a.account ≡ x.account → t.class ≡ x.class → 1 ≤ at_place a.account t.class x
    here a t account class =
        let both : is_position a.account t.class x ≡ true = and_from (x.account == a.account) (x.class == t.class) (eq-eqb x.account a.account (sym account)) (eq-eqb x.class t.class (sym class)) in
        let one : at_place a.account t.class x ≡ 1 = ap (λ b. cond b 1 0) both in
        omega (arith, one)

-- ---- so there are few

pub few-owned : (known : Known) (household : ℕ) (register : Register) → FactsFit known → IsRegister register → AreOwned known household register → AreFew register
few-owned known household register fit is owned =
    let rows = filter (λ (row : AccountRow). row.household == household) known.accounts in
    let least : length register ≤ sum_by (λ (x : Position). sum_by (λ (a : AccountRow). sum_by (λ (t : TermsForm). at_place a.account t.class x) known.terms) rows) register =
    sum-least (λ (x : Position). sum_by (λ (a : AccountRow). sum_by (λ (t : TermsForm). at_place a.account t.class x) known.terms) rows) register
    (λ k d short. placed known household (get_or register k d) (owned k d short)) in
    let swapped : sum_by (λ (x : Position). sum_by (λ (a : AccountRow). sum_by (λ (t : TermsForm). at_place a.account t.class x) known.terms) rows) register ≡ sum_by (λ (a : AccountRow). sum_by (λ (x : Position). sum_by (λ (t : TermsForm). at_place a.account t.class x) known.terms) register) rows =
    sums-exchange (λ (x : Position) (a : AccountRow). sum_by (λ (t : TermsForm). at_place a.account t.class x) known.terms) register rows in
    let most : sum_by (λ (a : AccountRow). sum_by (λ (x : Position). sum_by (λ (t : TermsForm). at_place a.account t.class x) known.terms) register) rows ≤ length rows * 1000 =
    sum-most (λ (a : AccountRow). sum_by (λ (x : Position). sum_by (λ (t : TermsForm). at_place a.account t.class x) known.terms) register) 1000 (λ a. in-account a) rows in
    omega (arith, least, swapped, most, length-filter (λ (row : AccountRow). row.household == household) known.accounts, fit.few_accounts household)
  where
    in-account : (a : AccountRow) → sum_by (λ (x : Position). sum_by (λ (t : TermsForm). at_place a.account t.class x) known.terms) register ≤ 1000
    in-account a =
        omega (
          arith,
          sums-exchange (λ (x : Position) (t : TermsForm). at_place a.account t.class x) register known.terms,
          sum-most (λ (t : TermsForm). sum_by (λ (x : Position). at_place a.account t.class x) register) 1 (λ t. once a.account t.class register is.ordered) known.terms,
          fit.few_terms,
        )
