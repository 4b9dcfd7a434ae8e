-- That `books_reply` keeps its contract.
use Rattle.std.proofs.Common.{ap, ◌∙◌}
use Rattle.agent_events.specs.declared.reply.Reply.{Reply}
use Rattle.holder_statements.proofs.BooksAreKept.{kept-are}
use Rattle.holder_statements.proofs.kept_books.books_reply.Goals as goal

pub returns-clause-books : goal.returns-clause-books
returns-clause-books c = λ situation register movements cash shares numbers.
    ap Reply.Books
    (c.in_ok-books.ensures.kept ∙ kept-are situation register movements c.args.cash.now c.args.classes.now c.args.dealers.now c.in_ok-books.ensures.once cash shares numbers)
