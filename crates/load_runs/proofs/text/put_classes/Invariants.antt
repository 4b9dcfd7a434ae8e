-- The lines of the classes so far stand behind what was there.
use Rattle.std.proofs.Common.{flat_map, map, take, ◌++◌, ◌≡◌}
use Rattle.load_requests.specs.Summaries.{class_line}
use Rattle.load_runs.specs.Seen.{with_line_feed}
use Rattle.load_runs.proofs.text.put_classes.Given as goal

abbrev pub invariant-loop-books : goal.invariant-loop-books
invariant-loop-books l = l.text.items ≡ l.initial.text.items ++ flat_map with_line_feed (map class_line (take l.books-index l.classes))
