-- That `state_of` keeps its contract.
use Rattle.std.proofs.Common.{ap, ◌∙◌}
use Rattle.holder_statements.specs.AccountPositions.{register_in}
use Rattle.register_desk.proofs.HouseholdParts.{register_kept}
use Rattle.register_laws.specs.Lawful.{book_behind}
use Rattle.register_desk.proofs.households.state_of.Goals as goal

pub returns-clause-register : goal.returns-clause-register
returns-clause-register c =
    let books = c.args.books.now in
    ap register_in c.state.ensures ∙ register_kept (book_behind books.book.journal) books.ledger.parts c.args.household c.requires.books.ledger
