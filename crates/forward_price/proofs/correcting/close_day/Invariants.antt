-- What holds at each turn of the loops of `close_day`.
use Rattle.std.proofs.Common.{◌≡◌, ◌++◌, map, take, drop}
use Rattle.forward_price.specs.PriceTables.{closed_in, is_priced}
use Rattle.forward_price.proofs.correcting.close_day.Given as goal

abbrev pub invariant-loop-calendar : goal.invariant-loop-calendar
invariant-loop-calendar l = record {
  done : l.calendars ≡ map (closed_in l.number l.day) (take l.calendar-index l.initial.calendars) ++ drop l.calendar-index l.initial.calendars;
  rest : drop l.calendar-index l.calendars ≡ drop l.calendar-index l.initial.calendars;
  answer : l.closed ≡ is_priced (take l.calendar-index l.initial.calendars) l.number l.day;
}
