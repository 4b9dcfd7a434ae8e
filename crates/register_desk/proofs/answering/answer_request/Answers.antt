-- That `answer_request` keeps its contract.
use Rattle.std.proofs.Common.{ap, refl, subst, sym, ◌∙◌}
use Rattle.agent_events.specs.declared.verdict.Verdict.{Verdict}
use Rattle.register_desk.proofs.AnswersByVerdict.{again_said, fresh_said, fresh_steps, look_said, none_steps}
use Rattle.register_desk.proofs.FreshAnswers.{fresh_follows, is_fresh}
use Rattle.register_desk.proofs.Verdicts.{again_there}
use Rattle.register_desk.proofs.answering.answer_request.Goals as goal
use Rattle.register_desk.specs.Steps.{AreStepsOf}
use Rattle.register_laws.specs.Lawful.{own_at}
use Rattle.register_machine.specs.run.Answers.{answer_by}

pub answer_again-requires-clause-there : goal.answer_again-requires-clause-there
answer_again-requires-clause-there g c =
    again_there (own_at c.args.books.now.book.journal c.args.moment c.args.caller) c.args.request.now c.in-Again.place
    (sym c.in_ok-said.ensures ∙ c.in-Again.is)

pub answer_look-requires-clause-look : goal.answer_look-requires-clause-look
answer_look-requires-clause-look g c =
    (c.args.moment, c.args.caller, sym c.in_ok-said.ensures ∙ c.in-Query.is)

pub answer_fresh-requires-clause-fresh : goal.answer_fresh-requires-clause-fresh
answer_fresh-requires-clause-fresh g c =
    is_fresh c.args.books.now.book.journal c.args.moment c.args.caller c.args.request.now c.in-Fresh.event
    (sym c.in_ok-said.ensures ∙ c.in-Fresh.is)

pub answer_fresh-requires-clause-follows : goal.answer_fresh-requires-clause-follows
answer_fresh-requires-clause-follows g c =
    fresh_follows c.args.books.now.book.journal c.args.moment c.args.caller c.args.request.now c.in-Fresh.event
    c.requires.books.lawful c.requires.moment c.requires.caller (sym c.in_ok-said.ensures ∙ c.in-Fresh.is)

pub returns-in-Refused-clause-answer : goal.returns-in-Refused-clause-answer
returns-in-Refused-clause-answer g c =
    ap (λ (said : Verdict). answer_by (own_at c.args.books.now.book.journal c.args.moment c.args.caller) c.args.request.now said)
    (sym c.in_ok-said.ensures ∙ c.in-Refused.is)
    ∙ sym c.reply_alone.ensures.answer

pub returns-in-Again-clause-answer : goal.returns-in-Again-clause-answer
returns-in-Again-clause-answer g c =
    again_said c.args.books.now.book.journal c.args.moment c.args.caller c.args.request.now c.in-Again.place
    c.answer_again.result (sym c.in_ok-said.ensures ∙ c.in-Again.is) c.answer_again.ensures.answer

pub returns-in-Query-clause-answer : goal.returns-in-Query-clause-answer
returns-in-Query-clause-answer g c =
    look_said c.args.books.now.book.journal c.args.moment c.args.caller c.args.request.now c.answer_look.result
    (sym c.in_ok-said.ensures ∙ c.in-Query.is) c.answer_look.ensures.answer

pub returns-in-Fresh-clause-answer : goal.returns-in-Fresh-clause-answer
returns-in-Fresh-clause-answer g c =
    fresh_said c.args.books.now.book.journal _ c.args.moment c.args.caller c.args.request.now c.in-Fresh.event
    c.answer_fresh.result c.answer_fresh.ensures.journal (sym c.in_ok-said.ensures ∙ c.in-Fresh.is) c.answer_fresh.ensures.answer

pub returns-in-Refused-clause-steps : goal.returns-in-Refused-clause-steps
returns-in-Refused-clause-steps g c =
    subst (λ (v : Verdict). AreStepsOf c.args.books.now.book.journal v c.reply_alone.result.change c.args.steps.now c.args.steps.now)
    (sym (sym c.in_ok-said.ensures ∙ c.in-Refused.is)) refl

pub returns-in-Again-clause-steps : goal.returns-in-Again-clause-steps
returns-in-Again-clause-steps g c =
    none_steps c.args.books.now.book.journal (Verdict.Again c.in-Again.place) c.args.steps.now
    c.answer_again.result (sym c.in_ok-said.ensures ∙ c.in-Again.is) (λ change. refl) c.answer_again.ensures.nothing

pub returns-in-Query-clause-steps : goal.returns-in-Query-clause-steps
returns-in-Query-clause-steps g c =
    none_steps c.args.books.now.book.journal Verdict.Query c.args.steps.now
    c.answer_look.result (sym c.in_ok-said.ensures ∙ c.in-Query.is) (λ change. refl) c.answer_look.ensures.nothing

pub returns-in-Fresh-clause-steps : goal.returns-in-Fresh-clause-steps
returns-in-Fresh-clause-steps g c =
    fresh_steps c.args.books.now.book.journal c.args.steps.now _ c.answer_fresh.result
    (sym c.in_ok-said.ensures ∙ c.in-Fresh.is) c.answer_fresh.ensures.steps
