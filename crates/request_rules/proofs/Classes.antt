-- Loops over the classes by their places: what one more of them adds.
use Rattle.std.proofs.Common.{Bool, List, None, Option, [], add-one, ap, cond, false, filter, fold, map, refl, take, true, zero, ℕ, ◌+◌, ◌||◌, ◌∙◌, ◌∷◌, ◌≡◌, ◌≤◌, suc, length, take_all}
use Rattle.std.specs.List.{list_any, slice_get}
use Rattle.std.specs.Option.{option_map_or}
use Rattle.agent_events.specs.declared.request.ClassForm.{ClassForm}
use Rattle.class_terms.specs.Checking.{differs_in_family, family_fault, lesser}
use Rattle.class_terms.specs.declared.form.TermsForm.{TermsForm}
use Rattle.request_rules.specs.VerbRules.{with_class_at, with_differing}
use Rattle.register_machine.specs.rules.Terms.{terms_of}

-- the least of the classes so far
abbrev pub least_among : TermsForm → Option ℕ → List ClassForm → Option ℕ
least_among form found classes = fold (λ (so_far : Option ℕ) (other : ClassForm). with_differing form so_far (terms_of other)) found classes

least-next : (form : TermsForm) (found : Option ℕ) (classes : List ClassForm) (place : ℕ) → least_among form found (take (suc place) classes) ≡ with_class_at form (least_among form found (take place classes)) (slice_get classes place)
least-next form found [] zero = refl
least-next form found [] (suc place) = refl
least-next form found (class ∷ classes) zero = refl
least-next form found (class ∷ classes) (suc place) = least-next form (with_differing form found (terms_of class)) classes place

pub least_more : (form : TermsForm) (classes : List ClassForm) (place : ℕ) → least_among form None (take (place + 1) classes) ≡ with_class_at form (least_among form None (take place classes)) (slice_get classes place)
least_more form classes place = rw add-one (least-next form None classes place)

least-from : (form : TermsForm) (found : Option ℕ) (classes : List ClassForm) → least_among form found classes ≡ fold lesser found (map (λ (other : TermsForm). other.class) (filter (differs_in_family form) (map terms_of classes)))
least-from form found [] = refl
least-from form found (class ∷ classes) = by_test (differs_in_family form (terms_of class)) (least-from form (lesser found class.class) classes) (least-from form found classes)
  where
    by_test : (b : Bool) → least_among form (lesser found class.class) classes ≡ fold lesser (lesser found class.class) (map (λ (other : TermsForm). other.class) (filter (differs_in_family form) (map terms_of classes))) → least_among form found classes ≡ fold lesser found (map (λ (other : TermsForm). other.class) (filter (differs_in_family form) (map terms_of classes))) → least_among form (cond b (lesser found class.class) found) classes ≡ fold lesser found (map (λ (other : TermsForm). other.class) (cond b (terms_of class ∷ filter (differs_in_family form) (map terms_of classes)) (filter (differs_in_family form) (map terms_of classes))))
    by_test true one none = one
    by_test false one none = none

pub least_all : (form : TermsForm) (classes : List ClassForm) (place : ℕ) → length classes ≤ place → least_among form None (take place classes) ≡ family_fault form (map terms_of classes)
least_all form classes place long = ap (least_among form None) (take_all place classes long) ∙ least-from form None classes

any-next : {X : Type 0} (test : X → Bool) (xs : List X) (place : ℕ) → list_any test (take (suc place) xs) ≡ (list_any test (take place xs) || option_map_or test (slice_get xs place) false)
any-next test [] zero = refl
any-next test [] (suc place) = refl
any-next test (x ∷ xs) zero = late (test x)
  where
    late : (b : Bool) → (b || false) ≡ b
    late true = refl
    late false = refl
any-next test (x ∷ xs) (suc place) = by_test (test x) (any-next test xs place)
  where
    by_test : (b : Bool) → list_any test (take (suc place) xs) ≡ (list_any test (take place xs) || option_map_or test (slice_get xs place) false) → (b || list_any test (take (suc place) xs)) ≡ (b || list_any test (take place xs) || option_map_or test (slice_get xs place) false)
    by_test true later = refl
    by_test false later = later

pub any_more : {X : Type 0} (test : X → Bool) (xs : List X) (place : ℕ) → list_any test (take (place + 1) xs) ≡ (list_any test (take place xs) || option_map_or test (slice_get xs place) false)
any_more test xs place = rw add-one (any-next test xs place)

pub any_all : {X : Type 0} (test : X → Bool) (xs : List X) (place : ℕ) → length xs ≤ place → list_any test (take place xs) ≡ list_any test xs
any_all test xs place long = ap (list_any test) (take_all place xs long)
