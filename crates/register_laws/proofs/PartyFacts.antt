-- The parties of the books, each once, and what their figures come to.
use Rattle.std.proofs.Common.{◌≡◌, ℕ, ◌+◌, Bool, true, false, cond, ◌==◌, ◌||◌, nat_lt, List, [], ◌∷◌, ◌++◌, filter, fold, map, sum_by, count_by, ℤ, pos, ◌+ℤ◌, inl, inr, refl, sym, ◌∙◌, ap, arith}
use Rattle.std.specs.List.{list_any}
use Rattle.std.proofs.lemmas.Bool.{eq-eqb, eqb-true, ne_eqb, or_right}
use Rattle.std.proofs.lemmas.Bool.Decides.{eqb_tells, nat_tests}
use Rattle.std.proofs.lemmas.List.Folds.{fold-map}
use Rattle.std.proofs.lemmas.List.Sums.{fold-append, length-filter, sum_by-append, sum_by-cons}
use Rattle.std.proofs.Math.IntN.{+ℤ_assoc, +ℤ_idl, +ℤ_idr}
use Rattle.agent_events.specs.declared.order.Party.{Party}
use Rattle.agent_events.specs.declared.request.AccountForm.{AccountForm}
use Rattle.agent_events.specs.declared.request.ClassForm.{ClassForm}
use Rattle.agent_events.specs.declared.request.DealerForm.{DealerForm}
use Rattle.register_machine.proofs.ListItems.{any-counted}
use Rattle.register_machine.specs.rules.Situations.{Situation}
use Rattle.register_machine.specs.corrections.Cash.{Movement, balance, same_party}
use Rattle.register_laws.specs.CashBooks.{books_total, classes_cash, dealers_cash, times_among, total_balance}
use Rattle.register_machine.specs.corrections.Gains.{class_numbers_of, dealer_numbers_of, in_its_place, rising_numbers}
use Rattle.register_laws.specs.Identities.{NoAccountTwice, has_number, is_class, is_dealer}
use Rattle.register_machine.specs.journal.Journals.{Journal}
use Rattle.register_machine.specs.journal.Kinds.{accounts_of, classes_of, dealers_of}
use Rattle.register_machine.specs.queries.Books.{books_by, class_books, dealer_books}
use Rattle.register_machine.specs.replay.Positions.{Register}
use Rattle.register_laws.proofs.Sums.{sum-plus, zeros}
use Rattle.register_laws.proofs.Sums.{sum-filtered}

-- a party that a journal knows
abbrev pub Known : Journal → Party → Type 0
Known journal (Party.Holder account) = list_any (has_number account) (accounts_of journal) ≡ true
Known journal (Party.Class class) = list_any (is_class class) (classes_of journal) ≡ true
Known journal (Party.Dealer dealer) = list_any (is_dealer dealer) (dealers_of journal) ≡ true
Known journal Party.Underwriter = Unit {0}
Known journal Party.Agent = Unit {0}

abbrev of_class : ℕ → Party
of_class number = Party.Class number

abbrev of_dealer : ℕ → Party
of_dealer number = Party.Dealer number

abbrev of_account : AccountForm → Party
of_account account = Party.Holder account.account

-- the parties of the books
abbrev behind_classes : List ℕ → List AccountForm → List Party
behind_classes dealers accounts = Party.Underwriter ∷ (Party.Agent ∷ (map of_dealer dealers ++ map of_account accounts))

abbrev pub booked_parties : List ℕ → List ℕ → List AccountForm → List Party
booked_parties classes dealers accounts = map of_class classes ++ behind_classes dealers accounts

-- ---- counts

abbrev party_one : Party → Party → ℕ
party_one party other = cond (same_party party other) 1 0

counts-alike : {X : Type 0} (party : Party) (f : X → Party) (test : X → Bool) → ((x : X) → same_party party (f x) ≡ test x) → (xs : List X) → count_by (same_party party) (map f xs) ≡ count_by test xs
counts-alike party f test same [] = refl
counts-alike party f test same (x ∷ xs) =
    omega (arith, sum_by-cons (party_one party) (f x) (map f xs), sum_by-cons (λ y. cond (test y) 1 0) x xs, ap {B = ℕ} (λ b. cond b 1 0) (same x), counts-alike party f test same xs)

counts-none : {X : Type 0} (party : Party) (f : X → Party) → ((x : X) → same_party party (f x) ≡ false) → (xs : List X) → count_by (same_party party) (map f xs) ≡ 0
counts-none party f none xs = counts-alike party f (λ x. false) none xs ∙ zeros xs

-- the counts over all parts
all-counts : (party : Party) (classes dealers : List ℕ) (accounts : List AccountForm) → times_among (booked_parties classes dealers accounts) party ≡ count_by (same_party party) (map of_class classes) + (party_one party Party.Underwriter + (party_one party Party.Agent + (count_by (same_party party) (map of_dealer dealers) + count_by (same_party party) (map of_account accounts))))
all-counts party classes dealers accounts =
    omega (arith, sum_by-append (party_one party) (map of_class classes) (behind_classes dealers accounts), sum_by-cons (party_one party) Party.Underwriter (Party.Agent ∷ (map of_dealer dealers ++ map of_account accounts)), sum_by-cons (party_one party) Party.Agent (map of_dealer dealers ++ map of_account accounts), sum_by-append (party_one party) (map of_dealer dealers) (map of_account accounts))

-- ---- numbers by rising size

abbrev number_one : ℕ → ℕ → ℕ
number_one n x = cond (n == x) 1 0

one-splits : (n m x : ℕ) → cond (nat_lt x m) (number_one n x) 0 + cond (nat_lt m x) (number_one n x) 0 ≡ cond (n == m) 0 (number_one n x)
one-splits n m x = grind (arith, nat_tests)

unless-same : (same : Bool) (f : ℕ → ℕ) (ns : List ℕ) → sum_by (λ x. cond same 0 (f x)) ns ≡ cond same 0 (sum_by f ns)
unless-same true f ns = zeros ns
unless-same false f ns = refl

place-count : (n m : ℕ) (ns : List ℕ) → count_by (λ x. n == x) (in_its_place m ns) ≡ cond (n == m) 1 (count_by (λ x. n == x) ns)
place-count n m ns =
    by_same (n == m) (unless-same (n == m) (number_one n) ns) parts
  where
    parts : count_by (λ x. n == x) (in_its_place m ns) ≡ number_one n m + sum_by (λ x. cond (n == m) 0 (number_one n x)) ns
    parts =
        omega (arith, sum_by-append (number_one n) (filter (λ x. nat_lt x m) ns) (m ∷ filter (λ x. nat_lt m x) ns), sum_by-cons (number_one n) m (filter (λ x. nat_lt m x) ns), sum-filtered (number_one n) (λ x. nat_lt x m) ns, sum-filtered (number_one n) (λ x. nat_lt m x) ns, sum-plus (λ x. cond (nat_lt x m) (number_one n x) 0) (λ x. cond (nat_lt m x) (number_one n x) 0) (λ x. cond (n == m) 0 (number_one n x)) (λ x. sym (one-splits n m x)) ns)

    by_same : (same : Bool) → sum_by (λ x. cond (n == m) 0 (number_one n x)) ns ≡ cond same 0 (count_by (λ x. n == x) ns) → count_by (λ x. n == x) (in_its_place m ns) ≡ cond same 1 0 + sum_by (λ x. cond (n == m) 0 (number_one n x)) ns → count_by (λ x. n == x) (in_its_place m ns) ≡ cond same 1 (count_by (λ x. n == x) ns)
    by_same true rest all = omega (arith, rest, all)
    by_same false rest all = omega (arith, rest, all)

rising-from : (n : ℕ) (ordered ns : List ℕ) → count_by (λ x. n == x) (fold (λ placed m. in_its_place m placed) ordered ns) ≡ cond (list_any (λ x. n == x) ns) 1 (count_by (λ x. n == x) ordered)
rising-from n ordered [] = refl
rising-from n ordered (m ∷ ns) =
    rising-from n (in_its_place m ordered) ns
    ∙ (ap (λ c. cond (list_any (λ x. n == x) ns) 1 c) (place-count n m ordered)
    ∙ by_first (n == m) (list_any (λ x. n == x) ns) (count_by (λ x. n == x) ordered))
  where
    by_first : (here later : Bool) (before : ℕ) → cond later 1 (cond here 1 before) ≡ cond (here || later) 1 before
    by_first true true before = refl
    by_first true false before = refl
    by_first false true before = refl
    by_first false false before = refl

rising-once : (n : ℕ) (ns : List ℕ) → list_any (λ x. n == x) ns ≡ true → count_by (λ x. n == x) (rising_numbers ns) ≡ 1
rising-once n ns e = rising-from n [] ns ∙ ap (λ b. cond b 1 0) e

any-mapped : {X Y : Type 0} (p : X → Bool) (q : Y → Bool) (f : X → Y) → ((x : X) → p x ≡ true → q (f x) ≡ true) → (xs : List X) → list_any p xs ≡ true → list_any q (map f xs) ≡ true
any-mapped p q f passes [] e = e
any-mapped p q f passes (x ∷ xs) e = by_one (p x) refl (any-mapped p q f passes xs) e
  where
    by_one : (here : Bool) → p x ≡ here → (list_any p xs ≡ true → list_any q (map f xs) ≡ true) → (here || list_any p xs) ≡ true → (q (f x) || list_any q (map f xs)) ≡ true
    by_one true is later h = ap (λ b. b || list_any q (map f xs)) (passes x is)
    by_one false is later h = or_right (q (f x)) (list_any q (map f xs)) (later h)

same_way : (a b : ℕ) → (a == b) ≡ true → (b == a) ≡ true
same_way a b e = eq-eqb b a (sym (eqb-true a b e))

-- ---- each known party once

class-once : (journal : Journal) (class : ℕ) → Known journal (Party.Class class) → count_by (same_party (Party.Class class)) (map of_class (class_numbers_of journal)) ≡ 1
class-once journal class known =
    let numbers = map (λ (form : ClassForm). form.class) (classes_of journal) in
    counts-alike (Party.Class class) of_class (λ x. class == x) (λ x. refl) (class_numbers_of journal)
    ∙ rising-once class numbers (any-mapped (is_class class) (λ x. class == x) (λ (form : ClassForm). form.class) (λ form e. same_way form.class class e) (classes_of journal) known)

dealer-once : (journal : Journal) (dealer : ℕ) → Known journal (Party.Dealer dealer) → count_by (same_party (Party.Dealer dealer)) (map of_dealer (dealer_numbers_of journal)) ≡ 1
dealer-once journal dealer known =
    let numbers = map (λ (form : DealerForm). form.dealer) (dealers_of journal) in
    counts-alike (Party.Dealer dealer) of_dealer (λ x. dealer == x) (λ x. refl) (dealer_numbers_of journal)
    ∙ rising-once dealer numbers (any-mapped (is_dealer dealer) (λ x. dealer == x) (λ (form : DealerForm). form.dealer) (λ form e. same_way form.dealer dealer e) (dealers_of journal) known)

same-both : (a b : ℕ) → (a == b) ≡ (b == a)
same-both a b = elim (eqb_tells a b) [
  | inl (is, same) ↦ is ∙ sym (same_way a b is)
  | inr (is, apart) ↦ is ∙ sym (ne_eqb b a (λ e. apart (sym e)))
]

holder-once : (journal : Journal) (account : ℕ) → NoAccountTwice journal → Known journal (Party.Holder account) → count_by (same_party (Party.Holder account)) (map of_account (accounts_of journal)) ≡ 1
holder-once journal account once known =
    let alike = counts-alike (Party.Holder account) of_account (has_number account) (λ form. same-both account form.account) (accounts_of journal) in
    omega (arith, alike, any-counted (has_number account) (accounts_of journal) known, length-filter (has_number account) (accounts_of journal), once account)

pub stands-once : (journal : Journal) → NoAccountTwice journal → (party : Party) → Known journal party → times_among (booked_parties (class_numbers_of journal) (dealer_numbers_of journal) (accounts_of journal)) party ≡ 1
stands-once journal once (Party.Holder account) known =
    let party = Party.Holder account in
    omega (arith, all-counts party (class_numbers_of journal) (dealer_numbers_of journal) (accounts_of journal), counts-none party of_class (λ x. refl) (class_numbers_of journal), counts-none party of_dealer (λ x. refl) (dealer_numbers_of journal), holder-once journal account once known)
stands-once journal once (Party.Class class) known =
    let party = Party.Class class in
    omega (arith, all-counts party (class_numbers_of journal) (dealer_numbers_of journal) (accounts_of journal), class-once journal class known, counts-none party of_dealer (λ x. refl) (dealer_numbers_of journal), counts-none party of_account (λ x. refl) (accounts_of journal))
stands-once journal once (Party.Dealer dealer) known =
    let party = Party.Dealer dealer in
    omega (arith, all-counts party (class_numbers_of journal) (dealer_numbers_of journal) (accounts_of journal), counts-none party of_class (λ x. refl) (class_numbers_of journal), dealer-once journal dealer known, counts-none party of_account (λ x. refl) (accounts_of journal))
stands-once journal once Party.Underwriter known =
    let party = Party.Underwriter in
    omega (arith, all-counts party (class_numbers_of journal) (dealer_numbers_of journal) (accounts_of journal), counts-none party of_class (λ x. refl) (class_numbers_of journal), counts-none party of_dealer (λ x. refl) (dealer_numbers_of journal), counts-none party of_account (λ x. refl) (accounts_of journal))
stands-once journal once Party.Agent known =
    let party = Party.Agent in
    omega (arith, all-counts party (class_numbers_of journal) (dealer_numbers_of journal) (accounts_of journal), counts-none party of_class (λ x. refl) (class_numbers_of journal), counts-none party of_dealer (λ x. refl) (dealer_numbers_of journal), counts-none party of_account (λ x. refl) (accounts_of journal))

-- ---- the figures

-- a sum from a number on
sum-on : {X : Type 0} (g : X → ℤ) (a : ℤ) (xs : List X) → fold (λ so_far x. so_far +ℤ g x) a xs ≡ a +ℤ fold (λ so_far x. so_far +ℤ g x) (pos 0) xs
sum-on g a [] = sym (+ℤ_idr a)
sum-on g a (x ∷ xs) =
    let rest = fold (λ so_far x. so_far +ℤ g x) (pos 0) xs in
    let from_x : fold (λ so_far x. so_far +ℤ g x) (pos 0 +ℤ g x) xs ≡ g x +ℤ rest = sum-on g (pos 0 +ℤ g x) xs ∙ ap (λ y. y +ℤ rest) (+ℤ_idl (g x)) in
    sum-on g (a +ℤ g x) xs ∙ (+ℤ_assoc a (g x) rest ∙ ap (λ y. a +ℤ y) (sym from_x))

abbrev with_balance : List Movement → ℤ → Party → ℤ
with_balance movements so_far party = so_far +ℤ balance movements party

-- the balances of parties that are made of some list
part-total : {X : Type 0} (movements : List Movement) (f : X → Party) (a : ℤ) (xs : List X) → fold (with_balance movements) a (map f xs) ≡ a +ℤ fold (λ so_far x. so_far +ℤ balance movements (f x)) (pos 0) xs
part-total movements f a xs =
    fold-map (with_balance movements) f a xs ∙ sum-on (λ x. balance movements (f x)) a xs

pub figures-total : (situation : Situation) (register : Register) (movements : List Movement) → books_total (books_by situation register movements) ≡ total_balance movements (booked_parties (class_numbers_of situation.journal) (dealer_numbers_of situation.journal) situation.book.accounts)
figures-total situation register movements =
    let classes = class_numbers_of situation.journal in
    let dealers = dealer_numbers_of situation.journal in
    let accounts = situation.book.accounts in
    let under = balance movements Party.Underwriter in
    let agent = balance movements Party.Agent in
    let by_class = fold (λ so_far x. so_far +ℤ balance movements (of_class x)) (pos 0) classes in
    let by_dealer = fold (λ so_far x. so_far +ℤ balance movements (of_dealer x)) (pos 0) dealers in
    let by_holder = fold (λ so_far x. so_far +ℤ balance movements (of_account x)) (pos 0) accounts in
    let front : classes_cash (map (class_books register movements) classes) ≡ by_class = fold-map (λ so_far of_class. so_far +ℤ of_class.cash) (class_books register movements) (pos 0) classes in
    let middle : dealers_cash (map (dealer_books movements) dealers) ≡ by_dealer = fold-map (λ so_far of_dealer. so_far +ℤ of_dealer.cash) (dealer_books movements) (pos 0) dealers in
    let first : fold (with_balance movements) (pos 0) (map of_class classes) ≡ by_class = part-total movements of_class (pos 0) classes ∙ +ℤ_idl by_class in
    let start = (by_class +ℤ under) +ℤ agent in
    ap (λ x. (((x +ℤ under) +ℤ agent) +ℤ dealers_cash (map (dealer_books movements) dealers)) +ℤ by_holder) front
    ∙ (ap (λ x. (start +ℤ x) +ℤ by_holder) middle
    ∙ sym
    (fold-append (with_balance movements) (pos 0) (map of_class classes) (behind_classes dealers accounts)
    ∙ (ap (λ x. fold (with_balance movements) x (behind_classes dealers accounts)) first
    ∙ (fold-append (with_balance movements) start (map of_dealer dealers) (map of_account accounts)
    ∙ (ap (λ x. fold (with_balance movements) x (map of_account accounts)) (part-total movements of_dealer start dealers)
    ∙ part-total movements of_account (start +ℤ by_dealer) accounts)))))
