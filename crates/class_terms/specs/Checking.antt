-- When the terms of a class are taken. The classes of one family exchange into each other without a charge, so they keep
-- one calendar and one schedule of deferred loads.
use Rattle.std.specs.Prelude.{ℕ, min, Bool, not, ◌&&◌, ◌||◌, ◌==◌, nat_eq, List, map, filter, fold, Option, Some, None, Result, Ok, Err, option_map}
use Rattle.std.specs.Option.{option_or}
use Rattle.std.specs.Cmp.Lexicographic.{pointwise}
use Rattle.class_terms.specs.declared.form.TermsForm.{TermsForm}
use Rattle.class_terms.specs.declared.faults.TermFault.{TermFault}
use Rattle.class_terms.specs.declared.faults.TermFault.TheVariants.{BadFront, BadDeferred, FamilyDiffers}
use Rattle.class_terms.specs.Tables.{front_fault, deferred_fault}

-- another class of the family of these terms (family 0 is none), with another calendar or schedule
abbrev pub differs_in_family : TermsForm → TermsForm → Bool
differs_in_family form other =
    not (form.family == 0) && other.family == form.family && not (other.class == form.class)
    && (not (other.calendar == form.calendar) || not (pointwise nat_eq other.deferred form.deferred))

-- the lesser of a number and the least one so far
abbrev pub lesser : Option ℕ → ℕ → Option ℕ
lesser None n = Some n
lesser (Some m) n = Some (min m n)

abbrev pub least : List ℕ → Option ℕ
least ns = fold lesser None ns

-- the least number of such a class among the others
abbrev pub family_fault : TermsForm → List TermsForm → Option ℕ
family_fault form others = least (map (λ (other : TermsForm). other.class) (filter (differs_in_family form) others))

-- the first fault of the terms, in the order front-end loads, deferred loads, family
abbrev pub term_fault : TermsForm → List TermsForm → Option TermFault
term_fault form others =
    option_or (option_map BadFront (front_fault form.front))
    (option_or (option_map BadDeferred (deferred_fault form.deferred)) (option_map FamilyDiffers (family_fault form others)))

-- the terms as they stand where there is no fault, else the fault
abbrev pub unless : Option TermFault → TermsForm → Result TermsForm TermFault
unless None form = Ok form
unless (Some fault) form = Err fault

abbrev pub form_or_fault : TermsForm → List TermsForm → Result TermsForm TermFault
form_or_fault form others = unless (term_fault form others) form
