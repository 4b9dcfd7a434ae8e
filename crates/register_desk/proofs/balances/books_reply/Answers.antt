-- That `books_reply` keeps its contract.
use Rattle.std.proofs.Common.{List, ap, map, ℕ, ◌∙◌}
use Rattle.register_desk.proofs.BooksOfParties.{keeps_cash, keeps_shares}
use Rattle.register_desk.specs.GatheredNumbers.{shares_in}
use Rattle.order_book.specs.Books.{NotedJournal}
use Rattle.register_laws.specs.Lawful.{book_behind, own_at}
use Rattle.register_machine.specs.corrections.Gains.{dealer_numbers_of}
use Rattle.register_machine.specs.corrections.Payments.{booked_movements}
use Rattle.register_machine.specs.replay.Replay.{replay}
use Rattle.register_desk.proofs.balances.books_reply.Goals as goal

pub returns : goal.returns
returns c = λ now caller.
    let books = c.args.books.now in
    let journal = books.book.journal in
    let day = replay (book_behind journal) in
    let rows = c.deref-2.ensures.value ∙ (c.in_ok-classes.ensures ∙ ap (λ (ns : List ℕ). map (shares_in day.register) ns) (c.deref.ensures.value ∙ c.in_ok-numbers.ensures)) in
    let dealers = c.deref-3.ensures.value ∙ (c.in_ok-dealers.ensures ∙ ap (λ (noted : NotedJournal). dealer_numbers_of noted.journal) c.orders.ensures) in
    c.in_ok-reply.ensures.books (own_at journal now caller) day.register (booked_movements journal day)
    (keeps_cash journal now caller books c.requires.books)
    (keeps_shares journal now caller c.deref-2.result.now rows) dealers
