-- The terms of a calendar by its form, and its pricing days as it was sent.
use Rattle.std.specs.Prelude.{Result}
use Rattle.agent_events.specs.declared.request.CalendarForm.{CalendarForm}
use Rattle.fund_calendar.specs.PricingDays.{CalendarRefusal, CalendarTerms, Listing, new_calendar}

abbrev pub calendar_terms : CalendarForm → CalendarTerms
calendar_terms form = record {
  number = form.calendar;
  zone = form.zone;
  minute = form.minute;
  first = form.first;
  last = form.last;
  holidays = form.holidays;
}

abbrev pub calendar_checked : CalendarForm → Result Listing CalendarRefusal
calendar_checked form = new_calendar (calendar_terms form)
