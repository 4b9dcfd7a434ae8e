-- What is written is the items before this one, each in its range.
use Rattle.std.proofs.Common.{◌≡◌, ◌++◌, take}
use Rattle.std.specs.List.{flat_map, AllByRecursion}
use Rattle.event_rows.specs.InForm.{IsBracket}
use Rattle.event_rows.specs.Rows.{bracket}
use Rattle.event_rows.proofs.list_writers.put_each_bracket.Given as goal

abbrev pub invariant-loop-bracket : goal.invariant-loop-bracket
invariant-loop-bracket l = record {
  written : l.row ≡ l.fn.row ++ flat_map bracket (take l.bracket-index l.brackets);
  in_form : AllByRecursion IsBracket (take l.bracket-index l.brackets);
}
