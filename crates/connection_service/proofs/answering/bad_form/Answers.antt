-- That `bad_form` keeps its contract.
use Rattle.connection_service.proofs.AnswerFacts.{gets-bad_form}
use Rattle.connection_service.proofs.answering.bad_form.Goals as goal

pub returns-in-Ok : goal.returns-in-Ok
returns-in-Ok c = λ journal faults. gets-bad_form c.args.last c.args.place c.in-Ok.bytes journal faults c.in-Ok.ensures
