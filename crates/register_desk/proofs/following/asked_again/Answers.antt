-- That `asked_again` keeps its contract.
use Rattle.std.proofs.Common.{ap, subst, sym, ◌∙◌, ◌≤◌}
use Rattle.agent_events.specs.Events.{request_of}
use Rattle.agent_events.specs.declared.event.EventKind.{EventKind}
use Rattle.agent_events.specs.declared.verdict.Caller.{Caller}
use Rattle.register_desk.proofs.AskedAgain.{asked_as, asker_is_caller, steps_asked}
use Rattle.register_desk.proofs.following.asked_again.Goals as goal
use Rattle.register_desk.specs.Answered.{IsCaller}
use Rattle.register_machine.specs.journal.Journals.{last_moment}
use Rattle.register_machine.specs.journal.Lawful.{asker_of}

pub answer_request-requires-clause-moment : goal.answer_request-requires-clause-moment
answer_request-requires-clause-moment g c =
    subst (λ moment. last_moment c.args.books.now.book.journal ≤ moment) (sym c.moment-moment.ensures) c.requires.moment

pub answer_request-requires-clause-caller : goal.answer_request-requires-clause-caller
answer_request-requires-clause-caller g c =
    subst (λ (caller : Caller). IsCaller c.args.books.now.book.journal caller)
    (sym (c.asker_of-caller.ensures ∙ ap (λ (kind : EventKind). asker_of c.args.books.now.book.journal kind) c.kind-kind.ensures.kind))
    (asker_is_caller c.args.books.now.book.journal c.args.event.now.kind)

pub returns-clause-answer : goal.returns-clause-answer
returns-clause-answer g c =
    asked_as c.args.books.now.book.journal _ c.args.event.now c.answer_request.result c.answer_request.ensures.journal
    c.moment-moment.ensures
    (c.asker_of-caller.ensures ∙ ap (λ (kind : EventKind). asker_of c.args.books.now.book.journal kind) c.kind-kind.ensures.kind)
    (c.in_ok-request.ensures ∙ ap (λ (kind : EventKind). request_of kind) c.kind-kind.ensures.kind)
    c.answer_request.ensures.answer

pub returns-clause-steps : goal.returns-clause-steps
returns-clause-steps g c =
    steps_asked c.args.books.now.book.journal c.args.event.now c.args.steps.now _ c.answer_request.result
    c.moment-moment.ensures
    (c.asker_of-caller.ensures ∙ ap (λ (kind : EventKind). asker_of c.args.books.now.book.journal kind) c.kind-kind.ensures.kind)
    (c.in_ok-request.ensures ∙ ap (λ (kind : EventKind). request_of kind) c.kind-kind.ensures.kind)
    c.answer_request.ensures.steps
