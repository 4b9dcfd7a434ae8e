-- what was answered is the answers to the lines so far, and what they brought is lawful behind the journal
use Rattle.std.proofs.Common.{take, ◌++◌, ◌≡◌}
use Rattle.agent_events.specs.declared.verdict.Caller.{Caller}
use Rattle.dealer_lines.specs.Answers.{lines_given}
use Rattle.dealer_lines.proofs.answering.answer_lines.Given as goal
use Rattle.register_laws.specs.Lawful.{own_at}
use Rattle.register_machine.specs.journal.Lawful.{IsLawful}
use Rattle.register_machine.specs.run.Batches.{batch_after_lines}

abbrev pub invariant-loop-asked : goal.invariant-loop-asked
invariant-loop-asked l = record {
  moment : l.answered.moment ≡ l.fn.moment;
  given : lines_given l.answered ≡ batch_after_lines (own_at l.book.journal l.fn.moment (Caller.Dealer l.dealer)) (take l.asked-index l.lines);
  lawful : IsLawful (l.book.journal ++ (lines_given l.answered).events);
}
