-- The holdings of an account, class by class: the positions of a register in order are those that its classes have in turn.
use Rattle.std.proofs.Common.{AllPairs, Bool, List, None, Option, Some, [], ap, arith, cond, false, filter, find, get_or, inl, inr, is_some, length, ltb, not, option_map, refl, suc, sym, true, zero, ℕ, ◌&&◌, ◌++◌, ◌<◌, ◌==◌, ◌||◌, ◌∙◌, ◌∷◌, ◌≡◌}
use Rattle.std.specs.List.{flat_map}
use Rattle.std.specs.Option.{option_map_or}
use Rattle.std.proofs.lemmas.Bool.{and_from, and_parts, cases_Bool, eq-eqb, eqb-true, ltb-true, or_cases, true≢false}
use Rattle.std.proofs.lemmas.Grind.{flat_map-append}
use Rattle.std.proofs.lemmas.List.{append-nil}
use Rattle.class_terms.specs.declared.form.TermsForm.{TermsForm}
use Rattle.fund_calendar.proofs.LookUpLemmas.{eq_false, find_at, find_passes, get_within}
use Rattle.forward_price.specs.PriceTables.{Table}
use Rattle.household_fold.proofs.BookFacts.{class_found}
use Rattle.household_fold.specs.Facts.{class_in_book, terms_numbered}
use Rattle.household_positions.specs.Register.{AreInOrder}
use Rattle.register_machine.specs.corrections.Gains.{latest_nav}
use Rattle.register_machine.specs.queries.Show.{is_shown, positions_of}
use Rattle.register_machine.specs.queries.Statement.{holding_line, name_of}
use Rattle.register_machine.specs.replay.Positions.{Position, Register, is_position}
use Rattle.holder_statements.specs.Holdings.{AreListed, book_of_tables, holding_in, line_of_class, line_of_holding}

-- ---- lists

pub none_pass : {X : Type 0} (p : X → Bool) (xs : List X) → ((k : ℕ) (d : X) → k < length xs → p (get_or xs k d) ≡ false) → filter p xs ≡ []
none_pass p [] h = refl
none_pass p (x ∷ xs) h = rw (h 0 x (omega arith)) (none_pass p xs (λ k d short. h (suc k) d (omega arith)))

pass_alike : {X : Type 0} (p q : X → Bool) (xs : List X) → ((k : ℕ) (d : X) → k < length xs → p (get_or xs k d) ≡ q (get_or xs k d)) → filter p xs ≡ filter q xs
pass_alike p q [] h = refl
pass_alike p q (x ∷ xs) h =
    ap (λ b. cond b (x ∷ filter p xs) (filter p xs)) (h 0 x (omega arith))
    ∙ ap (λ ys. cond (q x) (x ∷ ys) ys) (pass_alike p q xs (λ k d short. h (suc k) d (omega arith)))

pieces_alike : {X Y : Type 0} (f g : X → List Y) (xs : List X) → ((k : ℕ) (d : X) → k < length xs → f (get_or xs k d) ≡ g (get_or xs k d)) → flat_map f xs ≡ flat_map g xs
pieces_alike f g [] h = refl
pieces_alike f g (x ∷ xs) h =
    ap (λ ys. ys ++ flat_map f xs) (h 0 x (omega arith)) ∙ ap (λ ys. g x ++ ys) (pieces_alike f g xs (λ k d short. h (suc k) d (omega arith)))

pieces_of_pieces : {X Y Z : Type 0} (f : Y → List Z) (g : X → List Y) (xs : List X) → flat_map (λ x. flat_map f (g x)) xs ≡ flat_map f (flat_map g xs)
pieces_of_pieces f g [] = refl
pieces_of_pieces f g (x ∷ xs) =
    ap (λ ys. flat_map f (g x) ++ ys) (pieces_of_pieces f g xs) ∙ sym (flat_map-append f (g x) (flat_map g xs))

-- elements of two kinds, all of the one before all of the other
split_kinds : {X : Type 0} (p q : X → Bool) (xs : List X)
    → ((i j : ℕ) (d : X) → i < j → j < length xs → q (get_or xs i d) ≡ true → p (get_or xs j d) ≡ false)
    → ((k : ℕ) (d : X) → k < length xs → p (get_or xs k d) ≡ true → q (get_or xs k d) ≡ false)
    → filter (λ x. p x || q x) xs ≡ filter p xs ++ filter q xs
split_kinds p q [] turns apart = refl
split_kinds {X} p q (x ∷ xs) turns apart =
    by_kind (split_kinds p q xs (λ i j d lt short. turns (suc i) (suc j) d (omega arith) (omega arith)) (λ k d short. apart (suc k) d (omega arith)))
    (p x) (q x) refl refl
  where
    none_later : q x ≡ true → filter p xs ≡ []
    none_later e = none_pass p xs (λ k d short. turns 0 (suc k) d (omega arith) (omega arith) e)

    by_kind : filter (λ x. p x || q x) xs ≡ filter p xs ++ filter q xs → (a b : Bool) → p x ≡ a → q x ≡ b → cond (a || b) (x ∷ filter (λ x. p x || q x) xs) (filter (λ x. p x || q x) xs) ≡ cond a (x ∷ filter p xs) (filter p xs) ++ cond b (x ∷ filter q xs) (filter q xs)
    by_kind rest true true e f = absurd (true≢false (sym f ∙ apart 0 x (omega arith) e))
    by_kind rest true false e f = ap (λ ys. x ∷ ys) rest
    by_kind rest false true e f = ap (λ ys. x ∷ ys) (rest ∙ ap (λ ys. ys ++ filter q xs) (none_later f)) ∙ sym (ap (λ ys. ys ++ x ∷ filter q xs) (none_later f))
    by_kind rest false false e f = rest

-- ---- the positions of an account

-- the positions of one account stand by class
abbrev Rises : ℕ → Register → Type 0
Rises account register = AllPairs (λ (a : Position) (b : Position). a.account ≡ account → b.account ≡ account → a.class < b.class) register

rises : (account : ℕ) (register : Register) → AreInOrder register → Rises account register
rises account register ordered i j d lt short first second =
    let a = get_or register i d in
    let b = get_or register j d in
    elim (or_cases (ltb a.account b.account) ((a.account == b.account) && ltb a.class b.class) (ordered i j d lt short)) [
      | inl less ↦ absurd (let below = ltb-true a.account b.account less in omega arith)
      | inr both ↦ ltb-true a.class b.class (and_parts (a.account == b.account) (ltb a.class b.class) both).1
    ]

-- what is shown of one class
abbrev in_class : ℕ → ℕ → Position → Bool
in_class account class position = is_shown account position && (class == position.class)

-- and of the classes that have terms
abbrev in_terms : ℕ → List TermsForm → Position → Bool
in_terms account terms position = is_shown account position && is_some (terms_numbered terms position.class)

shown_account : (account : ℕ) (p : Position) → is_shown account p ≡ true → p.account ≡ account
shown_account account p e = eqb-true p.account account (and_parts (p.account == account) (not (length p.holding.lots == 0)) e).0

class_facts : (account class : ℕ) (p : Position) → in_class account class p ≡ true → (p.account ≡ account) × (class ≡ p.class)
class_facts account class p e =
    let parts = and_parts (is_shown account p) (class == p.class) e in
    (shown_account account p parts.0, eqb-true class p.class parts.1)

-- a class that has its terms behind those of another one is greater
above_first : (class n : ℕ) (terms : List TermsForm) → ((k : ℕ) (d : TermsForm) → k < length terms → class < (get_or terms k d).class) → is_some (terms_numbered terms n) ≡ true → class < n
above_first class n [] above e = absurd (none_some e)
  where
    none_some : false ≡ true → ⊥
    none_some e = cc
above_first class n (t ∷ ts) above e =
    elim (cases_Bool (t.class == n)) [
      | inl is ↦ (let same = eqb-true t.class n is in let first = above 0 t (omega arith) in omega arith)
      | inr apart ↦ above_first class n ts (λ k d short. above (suc k) d (omega arith)) (sym (ap (λ b. is_some (cond b (Some t) (terms_numbered ts n))) apart) ∙ e)
    ]

-- class by class it is what is shown of all classes with terms
shown_by_class : (account : ℕ) (register : Register) → Rises account register → (terms : List TermsForm) → AllPairs (λ a b. a.class < b.class) terms
    → flat_map (λ t. filter (in_class account t.class) register) terms ≡ filter (in_terms account terms) register
shown_by_class account register rise [] up = sym (none_pass (in_terms account []) register (λ k d short. and_no (is_shown account (get_or register k d))))
  where
    and_no : (b : Bool) → (b && false) ≡ false
    and_no true = refl
    and_no false = refl
shown_by_class account register rise (t ∷ ts) up =
    ap (λ ys. filter (in_class account t.class) register ++ ys) (shown_by_class account register rise ts (λ i j d lt short. up (suc i) (suc j) d (omega arith) (omega arith)))
    ∙ (sym (split_kinds (in_class account t.class) (in_terms account ts) register turns apart)
    ∙ pass_alike (λ p. in_class account t.class p || in_terms account ts p) (in_terms account (t ∷ ts)) register (λ k d short. one (get_or register k d)))
  where
    later : (n : ℕ) → is_some (terms_numbered ts n) ≡ true → t.class < n
    later n e = above_first t.class n ts (λ k d short. up 0 (suc k) d (omega arith) (omega arith)) e

    terms_facts : (p : Position) → in_terms account ts p ≡ true → (p.account ≡ account) × (t.class < p.class)
    terms_facts p e =
        let parts = and_parts (is_shown account p) (is_some (terms_numbered ts p.class)) e in
        (shown_account account p parts.0, later p.class parts.1)

    turns : (i j : ℕ) (d : Position) → i < j → j < length register → in_terms account ts (get_or register i d) ≡ true → in_class account t.class (get_or register j d) ≡ false
    turns i j d lt short e = elim (cases_Bool (in_class account t.class (get_or register j d))) [
      | inl is ↦ (
          let earlier = terms_facts (get_or register i d) e in
          let here = class_facts account t.class (get_or register j d) is in
          let above = earlier.1 in
          let same = here.1 in
          let below = rise i j d lt short earlier.0 here.0 in
          absurd (omega arith)
          )
      | inr no_class ↦ no_class
    ]

    apart : (k : ℕ) (d : Position) → k < length register → in_class account t.class (get_or register k d) ≡ true → in_terms account ts (get_or register k d) ≡ false
    apart k d short e = elim (cases_Bool (in_terms account ts (get_or register k d))) [
      | inl is ↦ (
          let above = (terms_facts (get_or register k d) is).1 in
          let same = (class_facts account t.class (get_or register k d) e).1 in
          absurd (omega arith)
          )
      | inr no_terms ↦ no_terms
    ]

    one : (p : Position) → (in_class account t.class p || in_terms account ts p) ≡ in_terms account (t ∷ ts) p
    one p = by_tests (is_shown account p) (t.class == p.class) (terms_numbered ts p.class)
      where
        by_tests : (a b : Bool) (o : Option TermsForm) → ((a && b) || (a && is_some o)) ≡ (a && is_some (cond b (Some t) o))
        by_tests true true o = refl
        by_tests true false o = refl
        by_tests false b o = refl

-- ---- one class

-- the position, where it has lots
abbrev part_of : Option Position → List Position
part_of found = option_map_or (λ position. cond (length position.holding.lots == 0) [] (position ∷ [])) found []

found_part : (account class : ℕ) (register : Register) → Rises account register → part_of (find (is_position account class) register) ≡ filter (in_class account class) register
found_part account class [] rise = refl
found_part account class (p ∷ ps) rise = elim (cases_Bool (is_position account class p)) [
  | inl is ↦ here is
  | inr other ↦ not_here (found_part account class ps (λ i j d lt short. rise (suc i) (suc j) d (omega arith) (omega arith))) other
]
  where
    none_later : (p.account ≡ account) → (p.class ≡ class) → filter (in_class account class) ps ≡ []
    none_later owner same = none_pass (in_class account class) ps (λ k d short. elim (cases_Bool (in_class account class (get_or ps k d))) [
      | inl again ↦ (
          let later = class_facts account class (get_or ps k d) again in
          let at = later.1 in
          let below = rise 0 (suc k) d (omega arith) (omega arith) owner later.0 in
          absurd (omega arith)
          )
      | inr no_class ↦ no_class
    ])

    by_lots : (empty : Bool) → cond empty [] (p ∷ []) ≡ cond ((true && not empty) && true) (p ∷ []) []
    by_lots true = refl
    by_lots false = refl

    here : is_position account class p ≡ true → part_of (find (is_position account class) (p ∷ ps)) ≡ filter (in_class account class) (p ∷ ps)
    here is =
        let parts = and_parts (p.account == account) (p.class == class) is in
        let owner = eqb-true p.account account parts.0 in
        let same = eqb-true p.class class parts.1 in
        ap (λ b. part_of (cond b (Some p) (find (is_position account class) ps))) is
        ∙ (by_lots (length p.holding.lots == 0)
        ∙ (ap (λ b. cond ((b && not (length p.holding.lots == 0)) && true) (p ∷ []) []) (sym parts.0)
        ∙ (ap (λ b. cond (is_shown account p && b) (p ∷ []) []) (sym (eq-eqb class p.class (sym same)))
        ∙ ap (λ ys. cond (in_class account class p) (p ∷ ys) ys) (sym (none_later owner same)))))

    not_in : is_position account class p ≡ false → in_class account class p ≡ false
    not_in other = elim (cases_Bool (in_class account class p)) [
      | inl is ↦ (
          let facts = class_facts account class p is in
          absurd (true≢false (sym (and_from (p.account == account) (p.class == class) (eq-eqb p.account account facts.0) (eq-eqb p.class class (sym facts.1))) ∙ other))
          )
      | inr no_class ↦ no_class
    ]

    not_here : part_of (find (is_position account class) ps) ≡ filter (in_class account class) ps → is_position account class p ≡ false → part_of (find (is_position account class) (p ∷ ps)) ≡ filter (in_class account class) (p ∷ ps)
    not_here later other =
        ap (λ b. part_of (cond b (Some p) (find (is_position account class) ps))) other
        ∙ (later
        ∙ ap (λ b. cond b (p ∷ filter (in_class account class) ps) (filter (in_class account class) ps)) (sym (not_in other)))

-- ---- the lines

-- the terms at a place are found by their class
terms_at : (terms : List TermsForm) (k : ℕ) (d : TermsForm) → AllPairs (λ a b. a.class < b.class) terms → k < length terms → terms_numbered terms (get_or terms k d).class ≡ Some (get_or terms k d)
terms_at terms k d up short =
    let class = (get_or terms k d).class in
    find_at (λ row. row.class == class) terms k
    (λ i e lt within. eq_false (get_or terms i e).class class (λ same. (let below = up i k e lt short in let at = same_get terms k e d short in let class_at = ap (λ (t : TermsForm). t.class) at in omega arith)))
    (λ e within. eq-eqb (get_or terms k e).class class (ap (λ (t : TermsForm). t.class) (same_get terms k e d short)))
    ∙ get_within terms k d short
  where
    same_get : {X : Type 0} (xs : List X) (k : ℕ) (d e : X) → k < length xs → get_or xs k d ≡ get_or xs k e
    same_get [] k d e h = absurd (omega arith)
    same_get (x ∷ xs) zero d e h = refl
    same_get (x ∷ xs) (suc k) d e h = same_get xs k d e (omega arith)

name_at : (table : Table) (terms : List TermsForm) (t : TermsForm) → terms_numbered terms t.class ≡ Some t → name_of (book_of_tables table terms) t.class ≡ t.name
name_at table terms t found = ap (λ o. option_map_or (λ c. c.name) o []) (class_found terms t.class ∙ ap (option_map class_in_book) found)

-- the line of a class is that of what is shown of it
class_line : (table : Table) (terms : List TermsForm) (t : TermsForm) (account : ℕ) (register : Register) → terms_numbered terms t.class ≡ Some t
    → line_of_class table.sheets t (holding_in register account t.class) ≡ flat_map (holding_line (book_of_tables table terms)) (part_of (find (is_position account t.class) register))
class_line table terms t account register found =
    by_found (find (is_position account t.class) register) (λ p is. eqb-true p.class t.class (and_parts (p.account == account) (p.class == t.class) (find_passes (is_position account t.class) register p is)).1)
  where
    line : (p : Position) → p.class ≡ t.class → line_of_holding t.class t.name (latest_nav table.sheets t.class) p.holding ≡ holding_line (book_of_tables table terms) p
    line p same =
        ap (λ name. line_of_holding t.class name (latest_nav table.sheets t.class) p.holding) (sym (name_at table terms t found))
        ∙ ap (λ class. line_of_holding class (name_of (book_of_tables table terms) class) (latest_nav table.sheets class) p.holding) (sym same)

    by_lots : (p : Position) (empty : Bool) → p.class ≡ t.class → cond empty [] (line_of_holding t.class t.name (latest_nav table.sheets t.class) p.holding) ≡ flat_map (holding_line (book_of_tables table terms)) (cond empty [] (p ∷ []))
    by_lots p true same = refl
    by_lots p false same = line p same ∙ sym (append-nil (holding_line (book_of_tables table terms) p))

    by_found : (o : Option Position) → ((p : Position) → o ≡ Some p → p.class ≡ t.class) → line_of_class table.sheets t (option_map (λ p. p.holding) o) ≡ flat_map (holding_line (book_of_tables table terms)) (part_of o)
    by_found None same = refl
    by_found (Some p) same = by_lots p (length p.holding.lots == 0) (same p refl)

-- all lines of the account's holdings
pub lines_of_holdings : (table : Table) (terms : List TermsForm) (account : ℕ) (register : Register) → AreListed terms account register
    → flat_map (λ row. line_of_class table.sheets row (holding_in register account row.class)) terms ≡ flat_map (holding_line (book_of_tables table terms)) (positions_of register account)
lines_of_holdings table terms account register listed =
    let line = holding_line (book_of_tables table terms) in
    let rise = rises account register listed.in_order in
    pieces_alike (λ row. line_of_class table.sheets row (holding_in register account row.class)) (λ row. flat_map line (filter (in_class account row.class) register)) terms
    (λ k d short.
    let t = get_or terms k d in
    class_line table terms t account register (terms_at terms k d listed.rising short) ∙ ap (flat_map line) (found_part account t.class register rise))
    ∙ (pieces_of_pieces line (λ row. filter (in_class account row.class) register) terms
    ∙ ap (flat_map line)
    (shown_by_class account register rise terms listed.rising
    ∙ pass_alike (in_terms account terms) (is_shown account) register (λ k d short. all_there (get_or register k d) (listed.there k d short))))
  where
    by_test : (a b : Bool) → (a ≡ true → b ≡ true) → (a && b) ≡ a
    by_test true b h = h refl
    by_test false b h = refl

    all_there : (p : Position) → (p.account ≡ account → is_some (terms_numbered terms p.class) ≡ true) → in_terms account terms p ≡ is_shown account p
    all_there p there = by_test (is_shown account p) (is_some (terms_numbered terms p.class)) (λ e. there (shown_account account p e))
