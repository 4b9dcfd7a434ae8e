-- The credit of a household is at most 10^21: it has at most 64 accounts, each a position in at most 1,000 classes, and each of
-- these is worth 10^16 cents at most.
use Rattle.std.proofs.Common.{All, Bool, List, None, Option, Some, [], ap, arith, cond, count_by, false, filter, find, fold, get_or, length, map, option_and_then, option_map, refl, sum_by, sym, true, ℕ, ◌*◌, ◌==◌, ◌^◌, ◌∷◌, ◌≡◌, ◌≤◌}
use Rattle.std.proofs.Math.Nat.{mul-le-mul, mul-le-mul_right}
use Rattle.std.proofs.lemmas.Bool.{and_parts, eqb-true, true≢false}
use Rattle.std.proofs.lemmas.List.Elements.{All-filter, All-head, All-tail}
use Rattle.std.proofs.lemmas.List.Sums.{length-filter, sum_by-cons, sum_by-le, sum_by-le-sum_by}
use Rattle.std.specs.Option.{option_map_or}
use Rattle.agent_events.specs.declared.request.AccountForm.{AccountForm}
use Rattle.agent_events.specs.declared.request.ClassForm.{ClassForm}
use Rattle.forward_price.specs.Choices.{best_so_far, found_or_better}
use Rattle.forward_price.specs.PriceTables.{is_before, is_later, price_before, sheet_before}
use Rattle.forward_price.specs.Sheets.{nav_on}
use Rattle.forward_price.specs.declared.price_sheet.Sheet.{Sheet}
use Rattle.money_units.proofs.RoundingFacts.{half-le}
use Rattle.money_units.specs.Rounding.{half}
use Rattle.offering_price.specs.Accumulation.{credit, worth, worth_at}
use Rattle.register_laws.proofs.Comparisons.{and-false}
use Rattle.register_laws.proofs.PositionsInOrder.{Once, at_place, once}
use Rattle.register_laws.proofs.RegistersStand.{RegisterStands, Stands}
use Rattle.register_laws.proofs.Sums.{passing, sum-mapped, sums-exchange, zeros}
use Rattle.register_laws.specs.ReplayKeeps.{AreInOrder, IsWithinLimits, SheetInRange, most_nav}
use Rattle.register_machine.proofs.FoundFacts.{own-place}
use Rattle.register_machine.specs.journal.Kinds.{account_numbered, class_numbered, household_of}
use Rattle.register_machine.specs.pricing.CorrectedBook.{Book, counts}
use Rattle.register_machine.specs.pricing.CorrectedOrders.{stands}
use Rattle.register_machine.specs.replay.Positions.{Position, Register, mils_of}
use Rattle.register_machine.specs.replay.Purchase.{credit_of, is_counted, worth_on}
use Rattle.share_lots.proofs.LotLemmas.{sum-mils}
use Rattle.share_lots.specs.Lots.{cost_total, mils, most_cost, most_mils}

-- ---- what a search finds

abbrev pub FoundAs : {X : Type 0} → (X → Type 0) → Option X → Type 0
FoundAs P None = Unit {0}
FoundAs P (Some x) = P x

pub found-as : {X : Type 0} (P : X → Type 0) (p : X → Bool) (xs : List X) → All P xs → FoundAs P (find p xs)
found-as P p [] all = tt
found-as P p (x ∷ xs) all =
    elim (p x) as (λ b. FoundAs P (cond b (Some x) (find p xs))) [
      | true ↦ All-head P x xs all
      | false ↦ found-as P p xs (All-tail P x xs all)
    ]

found-passes : {X : Type 0} (p : X → Bool) (xs : List X) → FoundAs (λ x. p x ≡ true) (find p xs)
found-passes p [] = tt
found-passes p (x ∷ xs) =
    elim (p x) as (λ b. p x ≡ b → FoundAs (λ y. p y ≡ true) (cond b (Some x) (find p xs))) [
      | true ↦ λ e. e
      | false ↦ λ e. found-passes p xs
    ] refl

-- what is found is among those that are summed
found-summed : {X : Type 0} (f : X → ℕ) (p : X → Bool) (xs : List X) → FoundAs (λ x. f x ≤ sum_by f xs) (find p xs)
found-summed f p [] = tt
found-summed {X = X} f p (x ∷ xs) =
    elim (p x) as (λ b. FoundAs (λ y. f y ≤ sum_by f (x ∷ xs)) (cond b (Some x) (find p xs))) [
      | true ↦ omega (arith, sum_by-cons f x xs)
      | false ↦ more (find p xs) (found-summed f p xs)
    ]
  where
    more : (found : Option X) → FoundAs (λ y. f y ≤ sum_by f xs) found → FoundAs (λ y. f y ≤ sum_by f (x ∷ xs)) found
    more None is = tt
    more (Some y) is = omega (arith, is, sum_by-cons f x xs)

-- the best of a list is one of it
pub best-as : {X : Type 0} (P : X → Type 0) (passes : X → Bool) (better : X → X → Bool) (found : Option X) (xs : List X) → FoundAs P found → All P xs → FoundAs P (fold (best_so_far passes better) found xs)
best-as P passes better found [] is all = is
best-as {X = X} P passes better found (x ∷ xs) is all =
    best-as P passes better (best_so_far passes better found x) xs
    (elim (passes x) as (λ b. FoundAs P (cond b (found_or_better better found x) found)) [ true ↦ either found is | false ↦ is ])
    (All-tail P x xs all)
  where
    either : (found : Option X) → FoundAs P found → FoundAs P (found_or_better better found x)
    either None is = All-head P x xs all
    either (Some y) is = elim (better x y) as (λ b. FoundAs P (cond b (Some x) (Some y))) [
      | true ↦ All-head P x xs all
      | false ↦ is
    ]

-- ---- prices and worths

abbrev LowPrice : Option ℕ → Type 0
LowPrice found = FoundAs (λ nav. nav ≤ most_nav) found

price-low : (sheets : List Sheet) (class : ℕ) (moment : ℕ) → All SheetInRange sheets → LowPrice (price_before sheets class moment)
price-low sheets class moment all =
    by_sheet (sheet_before sheets class moment) (best-as SheetInRange (is_before class moment) is_later None sheets tt all)
  where
    by_price : (found : Option (ℕ × ℕ)) → FoundAs (λ price. price.1 ≤ most_nav) found → LowPrice (option_map (λ price. price.1) found)
    by_price None is = tt
    by_price (Some price) is = is

    by_sheet : (found : Option Sheet) → FoundAs SheetInRange found → LowPrice (option_and_then (λ sheet. nav_on sheet.prices class) found)
    by_sheet None is = tt
    by_sheet (Some sheet) is =
        by_price (find (λ price. price.0 == class) sheet.prices) (found-as (λ price. price.1 ≤ most_nav) (λ price. price.0 == class) sheet.prices is)

-- what a position is worth at most
abbrev most_worth : ℕ
most_worth = 10000000000000000

worth-low : (mils cost : ℕ) (found : Option ℕ) → mils ≤ most_mils → cost ≤ most_cost → LowPrice found → worth_at mils cost found ≤ most_worth
worth-low mils cost None few low price = omega (arith, low)
worth-low mils cost (Some nav) few low price =
    let product : mils * nav ≤ most_mils * most_nav = mul-le-mul {n₁ = mils} {m₁ = nav} {n₂ = most_mils} {m₂ = most_nav} few price in
    let value : half (mils * nav) 1000 ≤ most_worth = half-le (mils * nav) 1000 most_worth (omega arith) (omega (arith, product)) in
    omega (arith, low, value)

position-worth : (book : Book) (sheet : Sheet) (x : Position) → All SheetInRange book.table.sheets → Stands x → worth (worth_on book sheet x) ≤ most_worth
position-worth book sheet x prices stand =
    worth-low (mils_of x.holding) (cost_total x.holding) (price_before book.table.sheets x.class sheet.moment)
    (omega (arith, sum-mils x.holding.lots, stand.holding.few_mils)) stand.holding.low_cost (price-low book.table.sheets x.class sheet.moment prices)

-- ---- the positions of a household

-- 1 where the position is that of this account and class
abbrev at_class : AccountForm → Position → ClassForm → ℕ
at_class account x terms = at_place account.account terms.class x

abbrev in_classes : Book → AccountForm → Position → ℕ
in_classes book account x = sum_by (at_class account x) book.classes

abbrev in_household : Book → ℕ → AccountForm → Position → ℕ
in_household book owner account x = cond (account.household == owner) (in_classes book account x) 0

-- a position that counts is that of an account of the household and of a class
counted-one : (book : Book) (owner : ℕ) (x : Position) → cond (is_counted book (Some owner) x) 1 0 ≤ sum_by (λ account. in_household book owner account x) book.accounts
counted-one book owner x =
    elim (is_counted book (Some owner) x) as (λ b. is_counted book (Some owner) x ≡ b → cond b 1 0 ≤ sum_by (λ account. in_household book owner account x) book.accounts) [
      | false ↦ λ e. omega arith
      | true ↦ λ e.
          let parts = and_parts (counts book x.class) (option_map_or (λ other. other == owner) (household_of book.accounts x.account) false) e in
          by_account (account_numbered book.accounts x.account) parts.1 (found-passes (λ account. account.account == x.account) book.accounts)
          (found-summed (λ account. in_household book owner account x) (λ account. account.account == x.account) book.accounts)
          (λ account is. by_class account is (class_numbered book.classes x.class) parts.0 (found-passes (λ class. class.class == x.class) book.classes) (found-summed (at_class account x) (λ class. class.class == x.class) book.classes))
    ] refl
  where
    by_class : (account : AccountForm) → account.account ≡ x.account → (found : Option ClassForm) → option_map_or (λ terms. terms.counts) found false ≡ true → FoundAs (λ class. (class.class == x.class) ≡ true) found → FoundAs (λ class. at_class account x class ≤ in_classes book account x) found → 1 ≤ in_classes book account x
    by_class account is None q passes among = absurd (true≢false (sym q))
    by_class account is (Some terms) q passes among =
        let here : at_class account x terms ≡ 1 = rw (is, eqb-true terms.class x.class passes, own-place x) refl in
        omega (arith, here, among)

    by_account : (found : Option AccountForm) → option_map_or (λ other. other == owner) (option_map (λ account. account.household) found) false ≡ true → FoundAs (λ account. (account.account == x.account) ≡ true) found → FoundAs (λ account. in_household book owner account x ≤ sum_by (λ account. in_household book owner account x) book.accounts) found → ((account : AccountForm) → account.account ≡ x.account → 1 ≤ in_classes book account x) → 1 ≤ sum_by (λ account. in_household book owner account x) book.accounts
    by_account None q passes among classes = absurd (true≢false (sym q))
    by_account (Some account) q passes among classes =
        let own = classes account (eqb-true account.account x.account passes) in
        let here : in_household book owner account x ≡ in_classes book account x = ap (λ b. cond b (in_classes book account x) 0) q in
        omega (arith, own, here, among)

-- an account has a position in each class at most
account-few : (book : Book) (register : Register) (account : AccountForm) → AreInOrder register → length book.classes ≤ 1000 → sum_by (in_classes book account) register ≤ 1000
unfolding Once
account-few book register account ordered few =
    let turned = sums-exchange (λ (x : Position) (terms : ClassForm). at_class account x terms) register book.classes in
    let each = sum_by-le (λ (terms : ClassForm). sum_by (λ (x : Position). at_class account x terms) register) 1 book.classes (λ k d short. once register ordered account.account (get_or book.classes k d).class) in
    omega (arith, turned, each, few)

household-few : (book : Book) (register : Register) (owner : ℕ) → AreInOrder register → IsWithinLimits book → count_by (is_counted book (Some owner)) register ≤ 64000
household-few book register owner ordered within =
    let pointwise = sum_by-le-sum_by (λ (x : Position). cond (is_counted book (Some owner) x) 1 0) (λ (x : Position). sum_by (λ account. in_household book owner account x) book.accounts) register (counted-one book owner) in
    let turned = sums-exchange (λ (account : AccountForm) (x : Position). in_household book owner account x) book.accounts register in
    let accounts = sum_by-le-sum_by (λ (account : AccountForm). sum_by (in_household book owner account) register) (λ (account : AccountForm). cond (account.household == owner) 1000 0) book.accounts one_account in
    let all = passing (λ (account : AccountForm). account.household == owner) 1000 book.accounts in
    omega (arith, pointwise, turned, accounts, all, within.few_accounts owner)
  where
    none : (xs : Register) → sum_by (λ (x : Position). 0) xs ≡ 0
    none xs = zeros xs

    one_account : (account : AccountForm) → sum_by (in_household book owner account) register ≤ cond (account.household == owner) 1000 0
    one_account account = elim (account.household == owner) as (λ b. sum_by (λ x. cond b (in_classes book account x) 0) register ≤ cond b 1000 0) [
      | true ↦ account-few book register account ordered within.few_classes
      | false ↦ omega (arith, none register)
    ]

none-counted : (book : Book) (register : Register) → count_by (is_counted book None) register ≡ 0
none-counted book [] = refl
none-counted book (x ∷ xs) =
    let none : is_counted book None x ≡ false = and-false (counts book x.class) false refl in
    let here : ◌≡◌ {A = ℕ} (cond (is_counted book None x) 1 0) 0 = rw none refl in
    omega (arith, here, none-counted book xs, sum_by-cons (λ y. cond (is_counted book None y) 1 0) x xs)

pub credit-few : (book : Book) (sheet : Sheet) (register : Register) (account : ℕ) → IsWithinLimits book → All SheetInRange book.table.sheets → RegisterStands register → credit_of book sheet register account ≤ 10 ^ 21
credit-few book sheet register account within prices stand = by_household (household_of book.accounts account)
  where
    all-low : (xs : Register) → All Stands xs → All (λ x. worth (worth_on book sheet x) ≤ most_worth) xs
    all-low xs stands k d short = position-worth book sheet (get_or xs k d) prices (stands k d short)

    few : (household : Option ℕ) → count_by (is_counted book household) register ≤ 64000
    few None = omega (arith, none-counted book register)
    few (Some owner) = household-few book register owner stand.in_order within

    by_household : (household : Option ℕ) → credit (map (worth_on book sheet) (filter (is_counted book household) register)) ≤ 10 ^ 21
    by_household household =
        let mine = filter (is_counted book household) register in
        let low = sum_by-le (λ x. worth (worth_on book sheet x)) most_worth mine (all-low mine (All-filter (is_counted book household) Stands register stand.positions)) in
        let long : length mine * most_worth ≤ 64000 * most_worth = mul-le-mul_right {m = length mine} {n = 64000} most_worth (omega (arith, few household, length-filter (is_counted book household) register)) in
        omega (arith, sum-mapped worth (worth_on book sheet) mine, low, long)
