-- What is written is the items before this one, each in its range.
use Rattle.std.proofs.Common.{◌≡◌, ◌++◌, take}
use Rattle.std.specs.List.{flat_map, AllByRecursion}
use Rattle.event_rows.specs.Ranges.{IsBps}
use Rattle.event_rows.specs.Spelling.{two_bytes}
use Rattle.event_rows.proofs.list_writers.put_each_rate.Given as goal

abbrev pub invariant-loop-rate : goal.invariant-loop-rate
invariant-loop-rate l = record {
  written : l.row ≡ l.fn.row ++ flat_map two_bytes (take l.rate-index l.rates);
  in_form : AllByRecursion IsBps (take l.rate-index l.rates);
}
