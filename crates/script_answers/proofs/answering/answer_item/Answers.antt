-- That `answer_item` keeps its contract.
use Rattle.script_answers.proofs.answering.answer_item.Goals as goal

pub returns-in-Bad-clause-counted : goal.returns-in-Bad-clause-counted
returns-in-Bad-clause-counted g c = c.refusal_line.ensures.counted (g.K.Keeper.faults c.args.keeper.now)
