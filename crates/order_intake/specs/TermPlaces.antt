-- The place of what is wrong with the loads of a class, whatever other classes there are.
use Rattle.std.specs.Prelude.{Err, None, Ok, Option, Result, Some, option_map}
use Rattle.std.specs.Option.{option_or}
use Rattle.agent_events.specs.declared.reply.Refusal.{Refusal}
use Rattle.agent_events.specs.declared.request.ClassForm.{ClassForm}
use Rattle.class_terms.specs.Tables.{deferred_fault, front_fault}
use Rattle.class_terms.specs.declared.faults.TermFault.{TermFault}
use Rattle.class_terms.specs.declared.form.TermsForm.{TermsForm}
use Rattle.register_machine.specs.rules.Terms.{terms_place}
use Rattle.class_terms.specs.declared.faults.TermFault.TheVariants as fault

abbrev pub place_checked : Result TermsForm TermFault → Option Refusal
place_checked (Ok terms) = None
place_checked (Err why) = terms_place (Some why)

abbrev pub loads_place : ClassForm → Option Refusal
loads_place form =
    terms_place
    (option_or (option_map fault.BadFront (front_fault form.front)) (option_map fault.BadDeferred (deferred_fault form.deferred)))
