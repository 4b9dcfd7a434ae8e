-- That `answer_call` keeps its contract.
use Rattle.std.proofs.Common.{ap, refl, subst, sym, true, ◌∙◌, ◌≡◌}
use Rattle.connection_service.proofs.answering.answer_call.Goals as goal
use Rattle.connection_service.specs.Answers.{AnswersBy, batch_asks_lines, text_of}
use Rattle.connection_service.specs.Serving.{at_of}
use Rattle.dealer_lines.specs.Lines.{all_lines}
use Rattle.agent_http.specs.declared.calls.CallAsk.{CallAsk}

pub answer_batch-requires-clause-lines : goal.answer_batch-requires-clause-lines
answer_batch-requires-clause-lines g c =
    ap all_lines c.as_slice.ensures ∙ subst (λ (ask : CallAsk). batch_asks_lines ask ≡ true) c.in-Batch.is c.requires.lines

-- What isn't in its form takes no reading.
pub returns-in-BadForm-clause-answers : goal.returns-in-BadForm-clause-answers
returns-in-BadForm-clause-answers g c =
    let journal = c.args.desk.now.book.journal in
    let faults = g.K.Keeper.faults c.args.keeper.now in
    let at = at_of journal faults (g.C.Clock.last c.args.clock.now) (g.C.Clock.coming c.args.clock.now) in
    subst (λ (ask : CallAsk). AnswersBy c.args.operator.now c.args.call.now.key c.args.call.now.last ask at (text_of c.args.call.now.last c.bad_form.result) at)
    (sym c.in-BadForm.is) (record { unread = refl; gets = c.bad_form.ensures journal faults })
