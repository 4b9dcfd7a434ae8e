-- That `answer_look` keeps its contract.
use Rattle.std.proofs.Common.{ap, ◌∙◌}
use Rattle.register_desk.proofs.answering.answer_look.Goals as goal
use Rattle.register_machine.specs.run.Answers.{says}

pub returns-clause-answer : goal.returns-clause-answer
returns-clause-answer c = λ now caller. c.reply_alone.ensures.answer ∙ ap says (c.in_ok-reply.ensures now caller)
