-- The proof of the law `a_reached_amount_leaves_nothing_due`.
use Rattle.letter_of_intent.specs.Letters.{load_due}
use Rattle.letter_of_intent.proofs.LetterFacts.{rate-reached, due-reached, nothing-to-pay}
use Rattle.letter_of_intent.proofs.laws.a_reached_amount_leaves_nothing_due.Goals as goal

pub returns-clause-rate : goal.returns-clause-rate
returns-clause-rate c reached = rate-reached c.args.rows.now c.args.letter c.requires.lawful c.requires.rate reached

pub returns-clause-due : goal.returns-clause-due
returns-clause-due c reached = due-reached c.args.rows.now c.args.letter c.requires.lawful c.requires.rate reached

pub returns-clause-paid : goal.returns-clause-paid
returns-clause-paid c reached =
    nothing-to-pay (load_due c.args.rows.now c.args.letter) c.args.nav c.args.held c.requires.nav
    (due-reached c.args.rows.now c.args.letter c.requires.lawful c.requires.rate reached)
