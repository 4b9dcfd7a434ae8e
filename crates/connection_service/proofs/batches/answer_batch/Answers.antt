-- That `answer_batch` keeps its contract.
use Rattle.std.proofs.Common.{ap, max, ◌∙◌}
use Rattle.connection_service.proofs.AnswerFacts.{read-gets, reads-by}
use Rattle.connection_service.proofs.batches.answer_batch.Goals as goal
use Rattle.connection_service.specs.Answers.{Gets, kept_at, said_to_batch, text_of}

pub returns-clause-answered : goal.returns-clause-answered
returns-clause-answered g c = record {
  reading = c.now.result;
  read = reads-by (g.C.Clock.last c.args.clock.now) (g.C.Clock.last c.now.new.self) c.now.result (g.C.Clock.coming c.args.clock.now) (g.C.Clock.coming c.now.new.self)
      c.now.ensures.reading c.now.ensures.rest c.now.ensures.last c.now.ensures.never_falls;
  gets = read-gets c.args.operator.now c.args.desk.now.book.journal c.args.key.now c.now.result c.later-moment.result c.caller_of-caller.result
      (λ situation. Gets c.args.last (said_to_batch c.args.last c.args.lines.now situation) (kept_at c.args.desk.now.book.journal (g.K.Keeper.faults c.args.keeper.now)) (text_of c.args.last c.answer_lines.result) (kept_at c.answer_lines.new.desk.book.journal (g.K.Keeper.faults c.answer_lines.new.keeper)))
      (c.later-moment.ensures ∙ ap (max c.now.result) c.last_moment.ensures) c.caller_of-caller.ensures.caller c.answer_lines.ensures.gets;
}
