-- What holds at each turn of the loops of `pricing_dates`.
use Rattle.std.proofs.Common.{◌≡◌, filter}
use Rattle.fund_calendar.specs.PricingDays.{days_from, is_priced}
use Rattle.fund_calendar.proofs.schedule.pricing_dates.Given as goal

abbrev pub invariant-loop-later : goal.invariant-loop-later
invariant-loop-later l = l.dates.items ≡ filter (is_priced l.holidays) (days_from l.later l.first)
