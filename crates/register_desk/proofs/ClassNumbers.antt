-- The numbers of a journal's tables are those of its classes: both rise, and each has what the other has.
use Rattle.std.proofs.Common.{All, AllPairs, Bool, List, None, Option, Some, [], ap, arith, cond, false, filter_map, find, get_or, inl, inr, is_some, map, nat_eq, option_map, refl, subst, sym, true, ℕ, ◌<◌, ◌==◌, ◌||◌, ◌⊎◌, ◌∙◌, ◌∷◌, ◌≡◌}
use Rattle.std.proofs.lemmas.Bool.{eqb-true, true≢false}
use Rattle.std.proofs.lemmas.Bool.Decides.{eqb_tells, nat_tests}
use Rattle.std.proofs.lemmas.List.Elements.{All-head, All-map, All-nil, All-tail}
use Rattle.std.proofs.lemmas.List.Kept.{AllPairs-cons}
use Rattle.std.proofs.lemmas.List.Folds.{list_any_at}
use Rattle.std.specs.List.{cons_option, list_any}
use Rattle.class_terms.specs.declared.form.TermsForm.{TermsForm}
use Rattle.agent_events.specs.declared.request.ClassForm.{ClassForm}
use Rattle.holder_statements.proofs.ClassesListed.{any-rising, numbers-rise}
use Rattle.holder_statements.proofs.AccountPositions.{or-second}
use Rattle.holder_statements.specs.AccountPositions.{AreRising}
use Rattle.register_desk.specs.GatheredNumbers.{class_number}
use Rattle.fund_calendar.proofs.LookUpLemmas.{find_passes, list_any-find}
use Rattle.household_fold.specs.Facts.{class_in_book, terms_numbered}
use Rattle.reference_tables.specs.Tables.{Tables}
use Rattle.reference_tables.specs.TablesOfJournals.{AreTablesOf}
use Rattle.register_laws.proofs.BooksSumToZero.{rising-all}
use Rattle.register_machine.specs.corrections.Gains.{class_numbers_of, rising_numbers}
use Rattle.register_machine.specs.journal.Journals.{Journal}
use Rattle.register_machine.specs.journal.Kinds.{class_numbered, classes_of}
use Rattle.share_lots.proofs.LotLemmas.{AllPairs-head, AllPairs-tail}

-- ---- numbers

pub same-number : (n : ℕ) → (n == n) ≡ true
same-number n = grind (arith, nat_tests)

turned-test : (a b : ℕ) → nat_eq a b ≡ (b == a)
turned-test a b = grind (arith, nat_tests)

greater-apart : (a b : ℕ) → a < b → nat_eq b a ≡ false
greater-apart a b = grind (arith, nat_tests)

or-behind : (a b : Bool) → b ≡ true → (a || b) ≡ true
or-behind true b e = refl
or-behind false b e = e

both-ways : (a b : Bool) → (a ≡ true → b ≡ true) → (b ≡ true → a ≡ true) → a ≡ b
both-ways true true there back = refl
both-ways true false there back = sym (there refl)
both-ways false true there back = back refl
both-ways false false there back = refl

-- what holds of all numbers holds of one that is among them
pub any-holds : (P : ℕ → Type 0) (q : ℕ) (ns : List ℕ) → All P ns → list_any (nat_eq q) ns ≡ true → P q
any-holds P q [] all is = absurd (true≢false (sym is))
any-holds P q (n ∷ ns) all is = elim (eqb_tells q n) [
  | inl (here, same) ↦ subst P (sym same) (All-head P n ns all)
  | inr (away, differs) ↦ any-holds P q ns (All-tail P n ns all) (or-second (nat_eq q n) (list_any (nat_eq q) ns) is away)
]

-- ---- rising numbers are told by what is among them

-- the first is the least
least : (q n : ℕ) (ns : List ℕ) → AreRising (n ∷ ns) → list_any (nat_eq q) (n ∷ ns) ≡ true → (n < q) ⊎ (q ≡ n)
least q n ns up is = elim (eqb_tells q n) [
  | inl (here, same) ↦ inr same
  | inr (away, differs) ↦ inl (any-holds (λ m. n < m) q ns (AllPairs-head (λ a b. a < b) n ns up) (or-second (nat_eq q n) (list_any (nat_eq q) ns) is away))
]

first-same : (n m : ℕ) → (n < m) ⊎ (m ≡ n) → (m < n) ⊎ (n ≡ m) → n ≡ m
first-same n m (inl a) (inl b) = absurd (omega (arith, a, b))
first-same n m (inl a) (inr e) = e
first-same n m (inr e) b = sym e

-- what is behind the first of one is behind the first of the other
behind-too : (n m : ℕ) (ns ms : List ℕ) → n ≡ m → AreRising (n ∷ ns) → ((q : ℕ) → list_any (nat_eq q) (n ∷ ns) ≡ true → list_any (nat_eq q) (m ∷ ms) ≡ true) → (q : ℕ) → list_any (nat_eq q) ns ≡ true → list_any (nat_eq q) ms ≡ true
behind-too n m ns ms same up there q is =
    let higher : n < q = any-holds (λ k. n < k) q ns (AllPairs-head (λ a b. a < b) n ns up) is in
    or-second (nat_eq q m) (list_any (nat_eq q) ms) (there q (or-behind (nat_eq q n) (list_any (nat_eq q) ns) is))
    (greater-apart m q (omega (arith, higher, same)))

first-in : (n : ℕ) (ns : List ℕ) → list_any (nat_eq n) (n ∷ ns) ≡ true
first-in n ns = ap (λ b. b || list_any (nat_eq n) ns) (same-number n)

rising-same : (ns ms : List ℕ) → AreRising ns → AreRising ms → ((q : ℕ) → list_any (nat_eq q) ns ≡ true → list_any (nat_eq q) ms ≡ true) → ((q : ℕ) → list_any (nat_eq q) ms ≡ true → list_any (nat_eq q) ns ≡ true) → ns ≡ ms
rising-same [] [] up over there back = refl
rising-same [] (m ∷ ms) up over there back = absurd (true≢false (sym (back m (first-in m ms))))
rising-same (n ∷ ns) [] up over there back = absurd (true≢false (sym (there n (first-in n ns))))
rising-same (n ∷ ns) (m ∷ ms) up over there back =
    let same : n ≡ m = first-same n m (least m n ns up (back m (first-in m ms))) (least n m ms over (there n (first-in n ns))) in
    let rest = rising-same ns ms (AllPairs-tail (λ a b. a < b) n ns up) (AllPairs-tail (λ a b. a < b) m ms over) (behind-too n m ns ms same up there) (behind-too m n ms ns (sym same) over back) in
    ap (λ k. k ∷ ns) same ∙ ap (λ ks. m ∷ ks) rest

all-within : (ns : List ℕ) → All (λ n. list_any (nat_eq n) ns ≡ true) ns
all-within ns = λ i d short. list_any_at (nat_eq (get_or ns i d)) ns i d short (same-number (get_or ns i d))

-- ---- the tables

-- a number is among those of a list where one is found by it
pub number-any : {X : Type 0} (f : X → ℕ) (q : ℕ) (xs : List X) → list_any (nat_eq q) (map f xs) ≡ is_some (find (λ x. f x == q) xs)
number-any f q [] = refl
number-any {X} f q (x ∷ xs) =
    ap (λ b. b || list_any (nat_eq q) (map f xs)) (turned-test q (f x)) ∙ by_one (f x == q) (number-any f q xs)
  where
    by_one : (b : Bool) → list_any (nat_eq q) (map f xs) ≡ is_some (find (λ y. f y == q) xs) → (b || list_any (nat_eq q) (map f xs)) ≡ is_some (cond b (Some x) (find (λ y. f y == q) xs))
    by_one true later = refl
    by_one false later = later

mapped-there : (found : Option TermsForm) → is_some (option_map class_in_book found) ≡ is_some found
mapped-there None = refl
mapped-there (Some terms) = refl

tables-any : (journal : Journal) (tables : Tables) → AreTablesOf journal tables → (q : ℕ) → list_any (nat_eq q) (map (λ row. row.class) tables.terms) ≡ list_any (nat_eq q) (map (λ form. form.class) (classes_of journal))
tables-any journal tables are q =
    number-any (λ (row : TermsForm). row.class) q tables.terms
    ∙ (sym (mapped-there (terms_numbered tables.terms q))
    ∙ (ap (λ (found : Option ClassForm). is_some found) (are.terms q)
    ∙ sym (number-any (λ (form : ClassForm). form.class) q (classes_of journal))))

rows-rise : (terms : List TermsForm) → AllPairs (λ a b. a.class < b.class) terms → AreRising (map (λ row. row.class) terms)
rows-rise [] rise = λ i j d lt short. absurd (omega (arith, short))
rows-rise (row ∷ rows) rise =
    AllPairs-cons (λ a b. a < b) row.class (map (λ (r : TermsForm). r.class) rows)
    (All-map (λ m. row.class < m) (λ (r : TermsForm). r.class) rows (AllPairs-head (λ (a b : TermsForm). a.class < b.class) row rows rise))
    (rows-rise rows (AllPairs-tail (λ (a b : TermsForm). a.class < b.class) row rows rise))

pub tables_have_classes : (journal : Journal) (tables : Tables) → AreTablesOf journal tables → map (λ row. row.class) tables.terms ≡ class_numbers_of journal
tables_have_classes journal tables are =
    let numbers = map (λ (form : ClassForm). form.class) (classes_of journal) in
    let own = map (λ (row : TermsForm). row.class) tables.terms in
    rising-same own (rising_numbers numbers) (rows-rise tables.terms are.stand.terms) (numbers-rise numbers)
    (λ q is. any-rising q [] numbers (sym (tables-any journal tables are q) ∙ is))
    (λ q is. tables-any journal tables are q ∙ any-holds (λ n. list_any (nat_eq n) numbers ≡ true) q (rising_numbers numbers) (rising-all (λ n. list_any (nat_eq n) numbers ≡ true) [] numbers (All-nil (λ n. list_any (nat_eq n) numbers ≡ true)) (all-within numbers)) is)

-- ---- as they are gathered

gathered : (h : TermsForm → Option ℕ) (rows : List TermsForm) → All (λ row. h row ≡ Some row.class) rows → filter_map h rows ≡ map (λ row. row.class) rows
gathered h [] all = refl
gathered h (row ∷ rows) all =
    ap (λ (found : Option ℕ). cons_option found (filter_map h rows)) (All-head (λ (r : TermsForm). h r ≡ Some r.class) row rows all)
    ∙ ap (λ ns. row.class ∷ ns) (gathered h rows (All-tail (λ (r : TermsForm). h r ≡ Some r.class) row rows all))

number-found : (class : ℕ) (forms : List ClassForm) (found : Option ClassForm) → class_numbered forms class ≡ found → is_some found ≡ true → option_map (λ form. form.class) found ≡ Some class
number-found class forms None is there = absurd (true≢false (sym there))
number-found class forms (Some form) is there =
    ap Some (eqb-true form.class class (find_passes (λ (f : ClassForm). f.class == class) forms form is))

pub classes_gathered : (journal : Journal) (tables : Tables) → AreTablesOf journal tables → filter_map (class_number journal) tables.terms ≡ class_numbers_of journal
classes_gathered journal tables are =
    gathered (class_number journal) tables.terms (λ i d short.
    let row = get_or tables.terms i d in
    let own : list_any (nat_eq row.class) (map (λ (r : TermsForm). r.class) tables.terms) ≡ true = number-any (λ (r : TermsForm). r.class) row.class tables.terms ∙ (sym (list_any-find (λ (r : TermsForm). r.class == row.class) tables.terms) ∙ list_any_at (λ (r : TermsForm). r.class == row.class) tables.terms i d short (same-number row.class)) in
    let there : is_some (class_numbered (classes_of journal) row.class) ≡ true = sym (number-any (λ (form : ClassForm). form.class) row.class (classes_of journal)) ∙ (sym (tables-any journal tables are row.class) ∙ own) in
    number-found row.class (classes_of journal) (class_numbered (classes_of journal) row.class) refl there)
    ∙ tables_have_classes journal tables are
