-- That `answer_fresh` keeps its contract.
use Rattle.std.proofs.Common.{None, Option, ap, false, subst, sym, true, ◌∙◌, ◌≡◌}
use Rattle.std.proofs.lemmas.Result.{IfOk-weaker}
use Rattle.std.specs.Prelude.{IfOk}
use Rattle.agent_events.specs.declared.reply.Refusal.{Refusal}
use Rattle.checkpoint_replay.specs.Moves.{households_of}
use Rattle.register_desk.proofs.FreshAnswers.{plain_steps, says_nothing, sheet_is_none, sheet_steps}
use Rattle.register_desk.specs.Answered.{answer_given}
use Rattle.register_desk.specs.Fresh.{first_answer, ledger_of, moves_in}
use Rattle.register_desk.specs.Steps.{TakesSteps}
use Rattle.register_desk.specs.declared.answering.Answered.{Answered}
use Rattle.register_laws.specs.EventReplays.{is_correction, is_sheet}
use Rattle.desk_books.specs.SheetReach.{TakeOneStepEach}
use Rattle.register_desk.proofs.fresh.answer_fresh.Goals as goal

pub returns-then-is_sheet-clause-answer : goal.returns-then-is_sheet-clause-answer
returns-then-is_sheet-clause-answer g c =
    let journal = c.args.books.now.book.journal in
    let sheet : is_sheet c.args.event.kind ≡ true = sym (ap is_sheet c.kind.ensures.kind) ∙ (sym c.is_sheet.ensures ∙ c.if-is_sheet.true) in
    subst (λ (broken : Option Refusal). IfOk c.answer_sheet.result (λ (answered : Answered). answer_given answered ≡ first_answer journal c.args.event broken))
    (sym (says_nothing journal c.args.event (sheet_is_none c.args.event.kind sheet))) c.answer_sheet.ensures.answer

pub returns-then-is_sheet-clause-steps : goal.returns-then-is_sheet-clause-steps
returns-then-is_sheet-clause-steps g c =
    let journal = c.args.books.now.book.journal in
    let sheet : is_sheet c.args.event.kind ≡ true = sym (ap is_sheet c.kind.ensures.kind) ∙ (sym c.is_sheet.ensures ∙ c.if-is_sheet.true) in
    IfOk-weaker c.answer_sheet.result
    (λ (answered : Answered). TakeOneStepEach journal c.args.event (households_of (moves_in (ledger_of answered.change))) c.args.steps.now c.answer_sheet.new.steps)
    (λ (answered : Answered). TakesSteps journal c.args.event answered.change c.args.steps.now c.answer_sheet.new.steps)
    (λ answered each. sheet_steps journal c.args.event answered.change c.args.steps.now c.answer_sheet.new.steps sheet each)
    c.answer_sheet.ensures.steps

pub returns-else-is_correction-clause-steps : goal.returns-else-is_correction-clause-steps
returns-else-is_correction-clause-steps g c =
    let journal = c.args.books.now.book.journal in
    let no_sheet : is_sheet c.args.event.kind ≡ false = sym (ap is_sheet c.kind.ensures.kind) ∙ (sym c.is_sheet.ensures ∙ c.if-is_sheet.false) in
    let no_correction : is_correction c.args.event.kind ≡ false = sym (ap is_correction c.kind-else-is_sheet.ensures.kind) ∙ (sym c.is_correction.ensures ∙ c.if-is_correction.false) in
    IfOk-weaker c.answer_event.result
    (λ (answered : Answered). answer_given answered ≡ first_answer journal c.args.event None)
    (λ (answered : Answered). TakesSteps journal c.args.event answered.change c.args.steps.now c.args.steps.now)
    (λ answered _. plain_steps journal c.args.event answered.change c.args.steps.now no_sheet no_correction)
    c.answer_event.ensures.answer
