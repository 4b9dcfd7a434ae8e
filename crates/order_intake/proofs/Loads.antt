-- The loads of a class are judged by themselves: its name and the other classes don't matter, and a family that differs is passed
-- over.
use Rattle.std.proofs.Common.{List, None, Option, Some, [], refl, ℕ, ◌∙◌, ◌≡◌, option_map}
use Rattle.std.specs.Option.{option_or}
use Rattle.agent_events.specs.declared.request.ClassForm.{ClassForm}
use Rattle.class_terms.specs.Checking.{form_or_fault, family_fault, term_fault, unless}
use Rattle.class_terms.specs.Tables.{deferred_fault, front_fault}
use Rattle.class_terms.specs.declared.faults.TermFault.{TermFault}
use Rattle.class_terms.specs.declared.form.TermsForm.{TermsForm}
use Rattle.order_intake.specs.TermPlaces.{loads_place, place_checked}
use Rattle.register_machine.specs.rules.Terms.{terms_of, terms_place}
use Rattle.class_terms.specs.declared.faults.TermFault.TheVariants as fault

-- the place by the faults of the two tables, with any fault of the family behind them
by-tables : (front deferred family : Option ℕ) → terms_place (option_or (option_map fault.BadFront front) (option_or (option_map fault.BadDeferred deferred) (option_map fault.FamilyDiffers family))) ≡ terms_place (option_or (option_map fault.BadFront front) (option_map fault.BadDeferred deferred))
by-tables (Some row) deferred family = refl
by-tables None (Some row) family = refl
by-tables None None None = refl
by-tables None None (Some class) = refl

by-fault : (why : Option TermFault) (terms : TermsForm) → place_checked (unless why terms) ≡ terms_place why
by-fault None terms = refl
by-fault (Some why) terms = refl

pub loads_checked : (terms : TermsForm) → place_checked (form_or_fault terms []) ≡ terms_place (option_or (option_map fault.BadFront (front_fault terms.front)) (option_map fault.BadDeferred (deferred_fault terms.deferred)))
loads_checked terms =
    by-fault (term_fault terms []) terms ∙ by-tables (front_fault terms.front) (deferred_fault terms.deferred) (family_fault terms [])

pub loads_by_terms : (form : ClassForm) (others : List TermsForm) → terms_place (term_fault (terms_of form) others) ≡ loads_place form
loads_by_terms form others = by-tables (front_fault form.front) (deferred_fault form.deferred) (family_fault (terms_of form) others)
