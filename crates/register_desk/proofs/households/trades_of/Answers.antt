-- That `trades_of` keeps its contract.
use Rattle.std.proofs.Common.{◌∙◌}
use Rattle.register_desk.proofs.HouseholdParts.{trades_kept}
use Rattle.register_laws.specs.Lawful.{book_behind}
use Rattle.register_desk.proofs.households.trades_of.Goals as goal

pub returns : goal.returns
returns c =
    let books = c.args.books.now in
    c.trades.ensures ∙ trades_kept (book_behind books.book.journal) books.ledger.parts c.args.household c.requires.books.ledger
