-- Refusal 2, behind the form: a calendar's zone, dates and moments, and the loads of a class.
use Rattle.std.specs.Prelude.{Err, None, Ok, Option, Result, Some, map}
use Rattle.agent_events.specs.Calendars.{calendar_checked}
use Rattle.agent_events.specs.declared.reply.Refusal.{Refusal}
use Rattle.agent_events.specs.declared.request.ClassForm.{ClassForm}
use Rattle.agent_events.specs.declared.request.Request.{Request}
use Rattle.class_terms.specs.Checking.{term_fault}
use Rattle.class_terms.specs.declared.faults.TermFault.{TermFault}
use Rattle.class_terms.specs.declared.form.TermsForm.{TermsForm}
use Rattle.fund_calendar.specs.PricingDays.{CalendarRefusal, Listing}
use Rattle.register_machine.specs.rules.Situations.{Situation}
use Rattle.class_terms.specs.declared.faults.TermFault.TheVariants as fault

abbrev pub calendar_place : Result Listing CalendarRefusal → Option Refusal
calendar_place (Ok listing) = None
calendar_place (Err CalendarRefusal.BadZone) = Some (Refusal.BadForm 2)
calendar_place (Err CalendarRefusal.BadSpan) = Some (Refusal.BadForm 5)
calendar_place (Err (CalendarRefusal.NotRising place)) = Some (Refusal.BadForm 3)

-- the terms of a class as they are checked
abbrev pub terms_of : ClassForm → TermsForm
terms_of form = record {
  class = form.class;
  calendar = form.calendar;
  fund = form.fund;
  name = form.name;
  family = form.family;
  counts = form.counts;
  first_min = form.first_min;
  later_min = form.later_min;
  front = form.front;
  deferred = form.deferred;
}

-- The check of the terms reads the other classes too, for the family. A family that differs comes last there, behind the
-- loads, and is passed over here: it is refused with what stands already.
abbrev pub terms_fault : Situation → ClassForm → Option TermFault
terms_fault situation form = term_fault (terms_of form) (map terms_of situation.book.classes)

abbrev pub terms_place : Option TermFault → Option Refusal
terms_place None = None
terms_place (Some (fault.BadFront row)) = Some (Refusal.BadForm 9)
terms_place (Some (fault.BadDeferred row)) = Some (Refusal.BadForm 10)
terms_place (Some (fault.FamilyDiffers class)) = None

abbrev pub bad_terms : Situation → Request → Option Refusal
bad_terms situation (Request.Calendar form) = calendar_place (calendar_checked form)
bad_terms situation (Request.Class form) = terms_place (terms_fault situation form)
bad_terms situation _ = None
