-- What holds at each turn of the loops of `answer_items`.
use Rattle.std.proofs.Common.{IsTrue, length, ◌++◌, ◌≡◌}
use Rattle.script_answers.proofs.RunFacts.{SoFar}
use Rattle.script_answers.proofs.answering.answer_items.Given as goal
use Rattle.register_desk.specs.Rows.{TellsRowsOf}
use Rattle.register_machine.specs.journal.Journals.{Journal}

abbrev pub invariant-loop-item : goal.invariant-loop-item
invariant-loop-item g l = record {
  so_far : SoFar l.operator l.initial.desk.book.journal l.initial.items l.items l.desk.book.journal (g.O.Sink.contents l.initial.out) (g.O.Sink.contents l.out);
  told : TellsRowsOf (g.K.Keeper.tells l.keeper) l.desk.book.journal;
  attached : IsTrue (g.K.Keeper.is_attached l.keeper);
  grown : (more : Journal) × (l.desk.book.journal ≡ l.initial.desk.book.journal ++ more);
  kept_count : g.K.Keeper.faults l.keeper ≡ g.K.Keeper.faults l.initial.keeper;
  count : g.O.Sink.faults l.out ≡ g.O.Sink.faults l.initial.out;
  was_honest : g.K.Keeper.is_honest l.keeper → g.K.Keeper.is_honest l.initial.keeper;
}

abbrev pub decreases-loop-item : goal.decreases-loop-item
decreases-loop-item g l = length l.items
