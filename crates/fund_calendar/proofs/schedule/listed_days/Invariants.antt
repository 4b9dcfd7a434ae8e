-- What holds at each turn of the loops of `listed_days`.
use Rattle.std.proofs.Common.{◌≡◌, ◌≤◌, ◌+◌, map, take}
use Rattle.fund_calendar.specs.PricingDays.{instant_on, priced_at, first_not_rising, last_moment}
use Rattle.fund_calendar.proofs.ScheduleLemmas.{fault_from}
use Rattle.fund_calendar.proofs.schedule.listed_days.Given as goal

abbrev pub invariant-loop-day : goal.invariant-loop-day
invariant-loop-day l = record {
  listed : l.listed.items ≡ map (priced_at (instant_on l.rule l.minute)) (take l.day-index l.dates);
  fault : first_not_rising 0 (map (instant_on l.rule l.minute) l.dates) ≡ fault_from (instant_on l.rule l.minute) l.dates l.day-index l.least;
  small : l.least ≤ last_moment + 1;
}
