-- The command that is handed to clap, the rows of its matches, and clap's last checks over them.
use Rattle.std.proofs.Common.{◌≡◌, ◌∙◌, ◌&&◌, ◌||◌, ◌⊎◌, ℕ, Bool, cond, true, false, not, refl, sym, ap, List, [], ◌∷◌, ◌++◌, map, Some, None, inl, inr, true≢false, append-nil, is_some}
use Rattle.std.specs.List.{find, fold, list_all, list_any}
use Rattle.std.specs.Str.{bytes_eq}
use Rattle.std.proofs.lemmas.List.{map-append}
use Rattle.std.proofs.lemmas.Slice.Eq.{bytes_eq-Decides}
use Rattle.clap.specs.Walk.{Row, Rule, Text, arg_by_id, arg_by_index, arg_by_long, at_row, first_of, has_long, has_row, more_values, reading_by, used, with_default, with_values}
use Rattle.clap.specs.Simple.{App, Shape, built, filled, filled_from}
use Rattle.clap.specs.Kinds.{Kinds, or_else}
use Rattle.clap.specs.Faults.{check_fault, default_fault, defaults_fault, is_simple_and_free, use_fault}
use Rattle.clap.specs.Takes.{is_given}
use Rattle.clap.specs.declared.parser.matches.ValueSource.TheVariants.{CommandLine}
use Rattle.clap.proofs.FaultLemmas.{past}
use Rattle.clap.proofs.WalkLemmas.{both, list_any-map}
use Rattle.agent_run.specs.Options.{Given, has_option, none_twice, value_of}
use Rattle.agent_run.specs.Parser.{app_with, option_rule}

-- ---- tests

pub split : (b : Bool) → (b ≡ true) ⊎ (b ≡ false)
split true = inl refl
split false = inr refl

pub and_both : (a b : Bool) → a ≡ true → b ≡ true → (a && b) ≡ true
and_both a b p q = rw (p, q) refl

pub and_left : (a b : Bool) → a ≡ false → (a && b) ≡ false
and_left a b p = rw p refl

pub and_right : (a b : Bool) → b ≡ false → (a && b) ≡ false
and_right true b p = p
and_right false b p = refl

pub and_assoc : (a b c : Bool) → ((a && b) && c) ≡ (a && (b && c))
and_assoc true b c = refl
and_assoc false b c = refl

pub and_true : (a : Bool) → (a && true) ≡ a
and_true true = refl
and_true false = refl

or_none : (a b : Bool) → (a || b) ≡ false → (a ≡ false) × (b ≡ false)
or_none true b e = absurd (true≢false e)
or_none false b e = (refl, e)

or_false : (a : Bool) → (a || false) ≡ a
or_false true = refl
or_false false = refl

pub or_right : (a b : Bool) → b ≡ true → (a || b) ≡ true
or_right true b e = refl
or_right false b e = e

pub not_false : (b : Bool) → not b ≡ false → b ≡ true
not_false true e = refl
not_false false e = absurd (true≢false e)

pub not_true : (b : Bool) → not b ≡ true → b ≡ false
not_true true e = absurd (true≢false (sym e))
not_true false e = refl

any_there : (p : Given → Bool) (xs : List Given) (x : Given) (ys : List Given) → p x ≡ true → list_any p (xs ++ x ∷ ys) ≡ true
any_there p [] x ys e = rw e refl
any_there p (y ∷ xs) x ys e = or_right (p y) _ (any_there p xs x ys e)

any_none : (p : Given → Bool) (xs : List Given) (x : Given) → list_any p xs ≡ false → p x ≡ false → list_any p (xs ++ x ∷ []) ≡ false
any_none p [] x none e = rw e refl
any_none p (y ∷ xs) x none e =
    let parts : (p y ≡ false) × (list_any p xs ≡ false) = or_none _ _ none in
    rw (parts.0) (any_none p xs x parts.1 e)

-- ---- options given twice

pub twice : (given : List Given) (g : Given) (more : List Given) → has_option g.0 given ≡ true → none_twice (given ++ g ∷ more) ≡ false
twice [] g more e = absurd (true≢false (sym e))
twice (r ∷ rs) g more e = elim (split (bytes_eq r.0 g.0)) [
  | inl holds ↦ and_left _ _ (ap not (any_there (λ later. bytes_eq r.0 later.0) rs g more holds))
  | inr fails ↦ and_right _ _ (twice rs g more (rw fails at e))
]

pub once_more : (given : List Given) (g : Given) → none_twice given ≡ true → has_option g.0 given ≡ false → none_twice (given ++ g ∷ []) ≡ true
once_more [] g e none = refl
once_more (r ∷ rs) g e none =
    let parts : (not (list_any (λ later. bytes_eq r.0 later.0) rs) ≡ true) × (none_twice rs ≡ true) = both _ _ e in
    let apart : (bytes_eq r.0 g.0 ≡ false) × (has_option g.0 rs ≡ false) = or_none _ _ none in
    and_both _ _ (ap not (any_none (λ later. bytes_eq r.0 later.0) rs g (not_true _ parts.0) apart.0)) (once_more rs g parts.1 apart.1)

-- ---- kinds of fault

abbrev pub is_nil : Kinds → Bool
is_nil [] = true
is_nil (k ∷ ks) = false

pub nil_or : (a b : Kinds) → is_nil (or_else a b) ≡ (is_nil a && is_nil b)
nil_or [] b = refl
nil_or (k ∷ ks) b = refl

pub nil_is : (a : Kinds) → is_nil a ≡ true → a ≡ []
nil_is [] e = refl
nil_is (k ∷ ks) e = absurd (true≢false (sym e))

-- ---- the command as it is built

abbrev pub built_rule : Text → Rule
built_rule name = record (filled (option_rule name)) { index = None }

filled_rules : (names : List Text) (i : ℕ) → filled_from i (map option_rule names) ≡ map built_rule names
filled_rules [] i = refl
filled_rules (name ∷ names) i = ap (λ rest. built_rule name ∷ rest) (filled_rules names i)

abbrev pub shape_with : Text → List Text → Shape
shape_with name names = record (built (app_with name [])).top { rules = map built_rule names }

abbrev pub built_with : Text → List Text → App
built_with name names = record { top = shape_with name names; subs = [] }

pub built_is : (name : Text) (names : List Text) → built (app_with name names) ≡ built_with name names
built_is name names = ap (λ rules. record { top = record (built (app_with name [])).top { rules = rules }; subs = [] }) (filled_rules names 1)

all_rules : (p : Rule → Bool) (f : Text → Rule) → ((name : Text) → p (f name) ≡ true) → (names : List Text) → list_all p (map f names) ≡ true
all_rules p f each [] = refl
all_rules p f each (name ∷ names) = and_both _ _ (each name) (all_rules p f each names)

no_rule : (p : Rule → Bool) (f : Text → Rule) → ((name : Text) → p (f name) ≡ false) → (names : List Text) → list_any p (map f names) ≡ false
no_rule p f each [] = refl
no_rule p f each (name ∷ names) = rw (each name) (no_rule p f each names)

-- no option has a place among the words, and none has a rule on another
pub simple_free : (name : Text) (names : List Text) → is_simple_and_free (app_with name names) ≡ true
simple_free name names = rw (
  filled_rules names 1,
  all_rules (λ a. a.is_simple) option_rule (λ n. refl) names,
  all_rules (λ a. a.is_simple) built_rule (λ n. refl) names,
  all_rules (λ a. a.is_free) built_rule (λ n. refl) names,
  no_rule _ built_rule (λ n. refl) names,
) refl

-- ---- what has a name

found_by : (p : Rule → Bool) (n : Text) → ((m : Text) → p (built_rule m) ≡ bytes_eq m n) → (names : List Text)
    → find p (map built_rule names) ≡ cond (list_any (λ m. bytes_eq m n) names) (Some (built_rule n)) None
found_by p n same [] = refl
found_by p n same (m ∷ ms) = elim (split (bytes_eq m n)) [
  | inl holds ↦ rw (same m, holds) (ap (λ x. Some (built_rule x)) ((bytes_eq-Decides m n).0 holds))
  | inr fails ↦ rw (same m, fails) (found_by p n same ms)
]

none_found : (p : Rule → Bool) → ((m : Text) → p (built_rule m) ≡ false) → (names : List Text) → find p (map built_rule names) ≡ None
none_found p none [] = refl
none_found p none (m ∷ ms) = rw (none m) (none_found p none ms)

pub same_name : (n : Text) → bytes_eq n n ≡ true
same_name n = (bytes_eq-Decides n n).1 refl

module _ (names : List Text) where
  abbrev pub knows : Text → Bool
  knows n = list_any (λ m. bytes_eq m n) names

  pub by_id : (n : Text) → knows n ≡ true → arg_by_id (map built_rule names) n ≡ Some (built_rule n)
  by_id n e = found_by (λ a. bytes_eq a.id n) n (λ m. refl) names ∙ ap (λ b. cond b (Some (built_rule n)) None) e

  by_long : (n : Text) → arg_by_long (map built_rule names) n ≡ cond (knows n) (Some (built_rule n)) None
  by_long n = found_by (λ a. not (is_some a.index) && has_long a n) n (λ m. or_false (bytes_eq m n)) names

  pub long_known : (n : Text) → knows n ≡ true → arg_by_long (map built_rule names) n ≡ Some (built_rule n)
  long_known n e = by_long n ∙ ap (λ b. cond b (Some (built_rule n)) None) e

  pub long_unknown : (n : Text) → knows n ≡ false → arg_by_long (map built_rule names) n ≡ None
  long_unknown n e = by_long n ∙ ap (λ b. cond b (Some (built_rule n)) None) e

  pub by_index : (i : ℕ) → arg_by_index (map built_rule names) i ≡ None
  by_index i = none_found _ (λ m. refl) names

-- ---- the rows of the matches

abbrev pub row : Given → Row
row g = record { id = g.0; values = g.1 ∷ []; count = None; source = Some CommandLine; reading = reading_by (built_rule g.0) }

abbrev pub rows : List Given → List Row
rows given = map row given

has_is : (given : List Given) (n : Text) → has_row n (rows given) ≡ has_option n given
has_is given n = sym (list_any-map (λ (r : Row). bytes_eq r.id n) row given)

at_none : (id : Text) (change : Row → List Row) (missing xs : List Row) → has_row id xs ≡ false → at_row id change missing xs ≡ xs ++ missing
at_none id change missing [] e = refl
at_none id change missing (r ∷ rs) e =
    let parts : (bytes_eq r.id id ≡ false) × (has_row id rs ≡ false) = or_none _ _ e in
    rw (parts.0) (ap (λ xs. r ∷ xs) (at_none id change missing rs parts.1))

-- a first use adds its row
pub used_is : (n v : Text) (given : List Given) → has_option n given ≡ false → used (built_rule n) (v ∷ []) (rows given) ≡ rows (given ++ (n, v) ∷ [])
used_is n v given e =
    let none : has_row n (rows given) ≡ false = has_is given n ∙ e in
    ap (with_values n (reading_by (built_rule n)) CommandLine (v ∷ [])) (at_none n (λ _. []) [] (rows given) none ∙ append-nil (rows given))
    ∙ at_none n (more_values CommandLine (v ∷ [])) (row (n, v) ∷ []) (rows given) none
    ∙ sym (map-append row given ((n, v) ∷ []))

-- a use passes where it is the first
pub use_is : (n v : Text) (given : List Given) → is_nil (use_fault false (built_rule n) (v ∷ []) (rows given)) ≡ not (has_option n given)
use_is n v given = elim (split (has_option n given)) [
  | inl holds ↦ rw (has_is given n, holds) refl
  | inr fails ↦ rw (has_is given n, fails) refl
]

pub first_is : (given : List Given) (n : Text) → first_of n (rows given) ≡ value_of given n
first_is [] n = refl
first_is (g ∷ gs) n = elim (split (bytes_eq g.0 n)) [
  | inl holds ↦ rw holds refl
  | inr fails ↦ rw fails (first_is gs n)
]

-- ---- the last checks

kept : (n : Text) (xs : List Row) → with_default xs (built_rule n) ≡ xs
kept n xs = elim (split (has_row n xs)) [
  | inl holds ↦ rw holds refl
  | inr fails ↦ rw fails refl
]

pub no_defaults : (names : List Text) (xs : List Row) → fold with_default xs (map built_rule names) ≡ xs
no_defaults [] xs = refl
no_defaults (n ∷ ns) xs = ap (λ ys. fold with_default ys (map built_rule ns)) (kept n xs) ∙ no_defaults ns xs

default_passes : (n : Text) (xs : List Row) → default_fault xs (built_rule n) ≡ []
default_passes n xs = elim (split (has_row n xs)) [
  | inl holds ↦ rw holds refl
  | inr fails ↦ rw fails refl
]

pub defaults_pass : (names : List Text) (xs : List Row) → defaults_fault xs (map built_rule names) ≡ []
unfolding defaults_fault
defaults_pass [] xs = refl
defaults_pass (n ∷ ns) xs = past _ _ (default_passes n xs) ∙ defaults_pass ns (with_default xs (built_rule n))

given_is : (given : List Given) (n : Text) → is_given n (rows given) ≡ has_option n given
given_is [] n = refl
given_is (g ∷ gs) n = elim (split (bytes_eq g.0 n)) [
  | inl holds ↦ rw holds refl
  | inr fails ↦ rw fails (given_is gs n)
]

abbrev pub all_given : List Text → List Given → Bool
all_given names given = list_all (λ n. has_option n given) names

missing_is : (names : List Text) (given : List Given)
    → list_any (λ (a : Rule). a.required && not (is_given a.id (rows given))) (map built_rule names) ≡ not (all_given names given)
missing_is [] given = refl
missing_is (n ∷ ns) given = elim (split (has_option n given)) [
  | inl holds ↦ rw (given_is given n, holds) (missing_is ns given)
  | inr fails ↦ rw (given_is given n, fails) refl
]

pub check_is : (name : Text) (names : List Text) (given : List Given) → is_nil (check_fault (shape_with name names) (rows given) false) ≡ all_given names given
check_is name names given = elim (split (all_given names given)) [
  | inl holds ↦ rw (missing_is names given, holds) refl
  | inr fails ↦ rw (missing_is names given, fails) refl
]
