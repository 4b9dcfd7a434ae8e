-- That `answer_at` keeps its contract.
use Rattle.std.proofs.Common.{IfOk, OnOk, ap, nat_lt, sym, subst, ◌++◌, ◌∙◌, ◌≡◌}
use Rattle.script_answers.proofs.RunFacts.{answered-in-turn}
use Rattle.script_answers.proofs.answering.answer_at.Goals as goal
use Rattle.register_machine.specs.run.Scripts as run

pub returns-then-is_before-clause-counted : goal.returns-then-is_before-clause-counted
returns-then-is_before-clause-counted g c = c.refusal_line.ensures.counted (g.K.Keeper.faults c.args.keeper.now)

pub returns-in-Err-clause-counted : goal.returns-in-Err-clause-counted
returns-in-Err-clause-counted g c = c.refusal_line-in-Err.ensures.counted (g.K.Keeper.faults c.args.keeper.now)

pub returns-in-Ok-clause-line : goal.returns-in-Ok-clause-line
returns-in-Ok-clause-line g c =
    let journal = c.args.desk.now.book.journal in
    let late = ap (λ last. nat_lt c.args.moment last) (sym c.last_moment-last.ensures) ∙ (sym c.is_before.ensures ∙ c.if-is_before.false) in
    subst (λ said. IfOk c.answer_request.result (λ line. line.items ≡ run.reply_line said.reply))
    (answered-in-turn c.args.operator.now journal c.args.moment c.args.key.now c.args.asked.now _ c.caller_of-caller.result late c.in-Ok.is c.caller_of-caller.ensures.caller)
    c.answer_request.ensures.line

pub returns-in-Ok-clause-journal : goal.returns-in-Ok-clause-journal
returns-in-Ok-clause-journal g c =
    let journal = c.args.desk.now.book.journal in
    let late = ap (λ last. nat_lt c.args.moment last) (sym c.last_moment-last.ensures) ∙ (sym c.is_before.ensures ∙ c.if-is_before.false) in
    subst (λ said. OnOk c.answer_request.result (c.answer_request.new.desk.book.journal ≡ journal ++ said.events))
    (answered-in-turn c.args.operator.now journal c.args.moment c.args.key.now c.args.asked.now _ c.caller_of-caller.result late c.in-Ok.is c.caller_of-caller.ensures.caller)
    c.answer_request.ensures.journal
