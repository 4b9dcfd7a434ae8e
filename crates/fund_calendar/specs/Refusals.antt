-- Which refusal of a calendar's terms a fault of the code tells.
use Rattle.std.specs.Prelude.{◌≡◌, Result, Err, ⊤}
use Rattle.fund_calendar.specs.declared.calendar.CalendarFault.{CalendarFault}
use Rattle.fund_calendar.specs.PricingDays.{CalendarRefusal}

-- the answer is the refusal that the fault tells; where there is no memory it may be any
abbrev pub RefusedAs : {X : Type 0} → CalendarFault → Result X CalendarRefusal → Type 0
RefusedAs CalendarFault.BadZone answer = Err CalendarRefusal.BadZone ≡ answer
RefusedAs CalendarFault.BadSpan answer = Err CalendarRefusal.BadSpan ≡ answer
RefusedAs (CalendarFault.NotRising place) answer = Err (CalendarRefusal.NotRising place) ≡ answer
RefusedAs CalendarFault.NoMemory answer = ⊤
