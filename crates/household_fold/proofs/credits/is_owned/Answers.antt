-- That `is_owned` keeps its contract.
use Rattle.std.proofs.Common.{ap, sym, ◌∙◌}
use Rattle.household_fold.specs.Facts.{book_of_facts}
use Rattle.register_machine.specs.journal.Kinds.{household_of}
use Rattle.household_fold.proofs.CreditFacts.{own-owned}
use Rattle.household_fold.proofs.credits.is_owned.Goals as goal

pub returns-then-account-own : goal.returns-then-account-own
returns-then-account-own c =
    let accounts = (book_of_facts c.args.facts.now).accounts in
    c.is_some.ensures ∙ own-owned c.args.household (household_of accounts c.args.account)
    (c.requires.household ∙ ap (household_of accounts) (sym c.if-account-own.true))
