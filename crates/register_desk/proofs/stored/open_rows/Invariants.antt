-- The rows before this place are those of the books' journal, the calls so far only read, and the steps are within the bound.
use Rattle.std.specs.Prelude.{IsTrue, ◌+◌, ◌≡◌, ◌≤◌}
use Rattle.agent_keeper.specs.Calls.{GoesOn, OnlyReads}
use Rattle.agent_keeper.specs.Content.{Content}
use Rattle.register_desk.specs.Opening.{OpensRows}
use Rattle.register_desk.specs.OpeningBounds.{opening_bound}
use Rattle.register_desk.proofs.stored.open_rows.Given as goal

abbrev pub invariant-loop-place : goal.invariant-loop-place
invariant-loop-place g l = record {
  opened : OpensRows g.K.Keeper.tells g.K.Keeper.moment g.K.Keeper.gave l.initial.keeper l.keeper l.place l.books;
  attached : IsTrue (g.K.Keeper.is_attached l.keeper);
  reads : OnlyReads g.K.Keeper.tells g.K.Keeper.may_leave g.K.Keeper.is_honest l.initial.keeper l.keeper;
  speaks : g.K.Keeper.is_honest l.keeper → (kept : Content) → g.K.Keeper.tells l.initial.keeper kept → g.K.Keeper.tells l.keeper kept;
  goes_on : GoesOn g.K.Keeper.moment g.K.Keeper.gave l.initial.keeper l.keeper;
  faults : g.K.Keeper.faults l.keeper ≡ g.K.Keeper.faults l.initial.keeper;
  steps : l.steps ≤ l.initial.steps + opening_bound l.books.book.journal;
}
