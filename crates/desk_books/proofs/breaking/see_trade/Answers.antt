-- That `see_trade` keeps its contract.
use Rattle.std.proofs.Common.{ap, sym, ◌∙◌}
use Rattle.desk_books.specs.Turns.{turn_in}
use Rattle.order_book.specs.Books.{NotedJournal}
use Rattle.register_machine.specs.journal.Journals.{with_event}
use Rattle.register_machine.specs.pricing.CorrectedOrders.{orders_of}
use Rattle.desk_books.proofs.breaking.see_trade.Goals as goal

pub returns-in-Some : goal.returns-in-Some
returns-in-Some c = (
  c.in-Some.turn,
  ap (λ (book : NotedJournal). turn_in (orders_of (with_event book.journal c.args.event.now)) c.args.trade.now) (sym c.orders.ensures) ∙ (sym c.turn_of.ensures ∙ c.in-Some.is),
  c.see.ensures,
)
