-- What the households so far come to, each in at most as many steps as there are sheets.
use Rattle.std.proofs.Common.{take, ◌*◌, ◌+◌, ◌≤◌}
use Rattle.std.specs.List.{sum_by}
use Rattle.desk_books.specs.Reopened.{AreReopened}
use Rattle.desk_books.specs.Starts.{sheets_replayed}
use Rattle.desk_books.proofs.reopening.reopen_all.Given as goal

abbrev pub invariant-loop-household : goal.invariant-loop-household
invariant-loop-household g l = record {
  reopened : AreReopened l.books l.event l.facts (take l.household-index l.households) l.moves.items l.first.least;
  steps : l.steps ≤ l.fn.steps + l.household-index * l.facts.sheet;
  behind : l.steps ≤ l.fn.steps + sum_by (sheets_replayed l.books.kept l.before l.facts.sheet) (take l.household-index l.households);
}
