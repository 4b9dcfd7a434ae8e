-- That `follows` keeps its contract.
use Rattle.std.proofs.Common.{inl, refl, sym, ◌∙◌}
use Rattle.register_desk.proofs.AskedAgain.{found_ready, never_before, not_before, not_found_never_follows}
use Rattle.register_desk.proofs.StepsAgain.{steps_found}
use Rattle.register_desk.proofs.StepsCounted.{few_found, found_lawful}
use Rattle.register_desk.proofs.following.follows.Goals as goal
use Rattle.register_machine.specs.journal.Journals.{last_moment}

pub returns-then-is_before-clause-none : goal.returns-then-is_before-clause-none
returns-then-is_before-clause-none g c =
    λ none lawful. never_before c.args.books.now.book.journal c.args.event.now (sym c.is_before.ensures ∙ c.if-is_before.true) lawful

pub asked_again-requires-clause-moment : goal.asked_again-requires-clause-moment
asked_again-requires-clause-moment g c =
    not_before c.args.event.now.moment (last_moment c.args.books.now.book.journal) (sym c.is_before.ensures ∙ c.if-is_before.false)

pub returns-clause-some : goal.returns-clause-some
returns-clause-some g c =
    found_ready c.args.books.now.book.journal _ c.args.event.now c.in_ok-answered.answered c.change_to.result
    c.change_to.ensures c.in_ok-answered.ensures.answer c.in_ok-answered.ensures.ready

pub returns-clause-none : goal.returns-clause-none
returns-clause-none g c =
    λ none lawful. not_found_never_follows c.args.books.now.book.journal c.args.event.now c.in_ok-answered.answered
    c.in_ok-answered.ensures.answer (sym c.change_to.ensures ∙ none) lawful

pub returns-then-is_before-clause-steps : goal.returns-then-is_before-clause-steps
returns-then-is_before-clause-steps g c = inl refl

pub returns-clause-steps : goal.returns-clause-steps
returns-clause-steps g c =
    steps_found c.args.books.now.book.journal c.args.event.now c.in_ok-answered.answered c.change_to.result
    c.args.steps.now _ c.change_to.ensures c.in_ok-answered.ensures.answer c.in_ok-answered.ensures.steps

pub returns-then-is_before-clause-few : goal.returns-then-is_before-clause-few
returns-then-is_before-clause-few g c = inl refl

pub returns-clause-few : goal.returns-clause-few
returns-clause-few g c =
    let journal = c.args.books.now.book.journal in
    few_found journal c.args.steps.now _ c.requires.books.lawful c.args.event.now c.change_to.result
    (found_lawful journal c.asked_again.new.books c.args.event.now c.change_to.result c.asked_again.ensures.journal
    (found_ready journal c.asked_again.new.books c.args.event.now c.in_ok-answered.answered c.change_to.result c.change_to.ensures c.in_ok-answered.ensures.answer c.in_ok-answered.ensures.ready))
    (steps_found journal c.args.event.now c.in_ok-answered.answered c.change_to.result
    c.args.steps.now _ c.change_to.ensures c.in_ok-answered.ensures.answer c.in_ok-answered.ensures.steps)
