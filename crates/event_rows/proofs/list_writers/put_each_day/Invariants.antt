-- What is written is the items before this one, each in its range.
use Rattle.std.proofs.Common.{◌≡◌, ◌++◌, take}
use Rattle.std.specs.List.{flat_map, AllByRecursion}
use Rattle.event_rows.specs.Ranges.{IsDay}
use Rattle.event_rows.specs.Spelling.{four_bytes}
use Rattle.event_rows.proofs.list_writers.put_each_day.Given as goal

abbrev pub invariant-loop-day : goal.invariant-loop-day
invariant-loop-day l = record {
  written : l.row ≡ l.fn.row ++ flat_map four_bytes (take l.day-index l.days);
  in_form : AllByRecursion IsDay (take l.day-index l.days);
}
