-- That `Desk::caller_of` keeps its contract.
use Rattle.std.proofs.Common.{subst}
use Rattle.register_desk.specs.Answered.{IsCaller}
use Rattle.desk_books.specs.declared.books.DeskBooks.{DeskBooks}
use Rattle.register_desk.proofs.KeysOfDealers.{caller_known}
use Rattle.register_desk.proofs.desk.Desk.caller_of.Goals as goal

pub returns-clause-known : goal.returns-clause-known
returns-clause-known c =
    subst (λ (books : DeskBooks). IsCaller books.book.journal c.caller_of.result) c.self.view_is
    (caller_known c.self.inside.books.book.journal c.args.operator.now c.args.key.now c.caller_of.result c.caller_of.ensures)
