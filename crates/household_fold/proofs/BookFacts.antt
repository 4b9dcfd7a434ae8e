-- What the corrected book has of the tables.
use Rattle.std.proofs.Common.{All, Bool, List, None, Option, Some, [], ap, cond, false, find, map, option_map, refl, sym, true, ℕ, ◌&&◌, ◌==◌, ◌∙◌, ◌∷◌, ◌≡◌, ◌≤◌}
use Rattle.std.specs.Option.{option_map_or}
use Rattle.agent_events.specs.declared.rows.AccountRow.{AccountRow}
use Rattle.agent_events.specs.declared.rows.RateRow.{RateRow}
use Rattle.class_terms.specs.declared.form.TermsForm.{TermsForm}
use Rattle.register_machine.specs.journal.Kinds.{class_numbered, household_of}
use Rattle.register_machine.specs.pricing.CorrectedBook.{counts, front_of, schedule_of}
use Rattle.register_machine.specs.pricing.DividendRates.{rate_at}
use Rattle.household_fold.proofs.PutFacts.{find-all}
use Rattle.household_fold.specs.Facts.{Known, account_in_book, book_of_facts, class_in_book, rate_in_book, rate_numbered, rates_in_book, row_numbered, terms_numbered}

-- a search among what is made of each element
find-map : {X Y : Type 0} (f : X → Y) (p : Y → Bool) (xs : List X) → find p (map f xs) ≡ option_map f (find (λ x. p (f x)) xs)
find-map f p [] = refl
find-map f p (x ∷ xs) =
    elim (p (f x)) as (λ b. cond b (Some (f x)) (find p (map f xs)) ≡ option_map f (cond b (Some x) (find (λ x. p (f x)) xs))) [
      | true ↦ refl
      | false ↦ find-map f p xs
    ]

-- the terms of a class
pub class_found : (terms : List TermsForm) (class : ℕ) → class_numbered (map class_in_book terms) class ≡ option_map class_in_book (terms_numbered terms class)
class_found terms class = find-map class_in_book (λ row. row.class == class) terms

pub front_found : (known : Known) (class : ℕ) (terms : TermsForm) → Some terms ≡ terms_numbered known.terms class → terms.front ≡ front_of (book_of_facts known) class
front_found known class terms found =
    sym (ap (λ o. option_map_or (λ t. t.front) o []) (class_found known.terms class ∙ ap (option_map class_in_book) (sym found)))

pub schedule_found : (known : Known) (class : ℕ) (terms : TermsForm) → Some terms ≡ terms_numbered known.terms class → terms.deferred ≡ schedule_of (book_of_facts known) class
schedule_found known class terms found =
    sym (ap (λ o. option_map_or (λ t. t.deferred) o []) (class_found known.terms class ∙ ap (option_map class_in_book) (sym found)))

pub counts_found : (known : Known) (class : ℕ) (terms : TermsForm) → Some terms ≡ terms_numbered known.terms class → terms.counts ≡ counts (book_of_facts known) class
counts_found known class terms found =
    sym (ap (λ o. option_map_or (λ t. t.counts) o false) (class_found known.terms class ∙ ap (option_map class_in_book) (sym found)))

pub counts_not_found : (known : Known) (class : ℕ) → None ≡ terms_numbered known.terms class → false ≡ counts (book_of_facts known) class
counts_not_found known class found =
    sym (ap (λ o. option_map_or (λ t. t.counts) o false) (class_found known.terms class ∙ ap (option_map class_in_book) (sym found)))

-- the household of an account
pub household_found : (rows : List AccountRow) (account : ℕ) → option_map (λ row. row.household) (row_numbered rows account) ≡ household_of (map account_in_book rows) account
household_found rows account =
    sym (ap (option_map (λ row. row.household)) (find-map account_in_book (λ row. row.account == account) rows) ∙ twice (row_numbered rows account))
  where
    twice : (o : Option AccountRow) → option_map (λ row. row.household) (option_map account_in_book o) ≡ option_map (λ row. row.household) o
    twice None = refl
    twice (Some row) = refl

-- the rate of a class at a moment
pub rate_found : (rows : List RateRow) (class moment : ℕ) → option_map_or (λ row. row.rate) (rate_numbered rows class moment) 0 ≡ rate_at (rates_in_book rows) class moment
rate_found rows class moment =
    sym (ap (λ o. option_map_or (λ form. form.rate) o 0) (find-map rate_in_book (λ row. row.class == class && row.moment == moment) rows) ∙ twice (rate_numbered rows class moment))
  where
    twice : (o : Option RateRow) → option_map_or (λ form. form.rate) (option_map rate_in_book o) 0 ≡ option_map_or (λ row. row.rate) o 0
    twice None = refl
    twice (Some row) = refl

pub rate_within : (rows : List RateRow) (class moment : ℕ) (row : RateRow) → All (λ row. row.rate ≤ 1000000000) rows → Some row ≡ rate_numbered rows class moment → row.rate ≤ 1000000000
rate_within rows class moment row all found =
    find-all (λ row. row.rate ≤ 1000000000) (λ row. row.class == class && row.moment == moment) rows all row (sym found)
