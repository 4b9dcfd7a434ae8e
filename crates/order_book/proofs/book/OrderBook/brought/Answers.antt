-- That `OrderBook::brought` keeps its contract.
use Rattle.std.proofs.Common.{List, ap, sym, ◌∙◌}
use Rattle.std.specs.List.{slice_get}
use Rattle.std.specs.Prelude.{option_and_then}
use Rattle.agent_events.specs.Events.{Event}
use Rattle.order_book.proofs.BookFound.{got-first}
use Rattle.order_book.specs.Books.{NotedJournal}
use Rattle.order_book.proofs.book.OrderBook.brought.Goals as goal

pub returns-in-Some : goal.returns-in-Some
returns-in-Some c =
    (c.item_at.ensures ∙ ap (λ (es : List Event). slice_get es c.in-Some.place) c.as_slice.ensures.value) ∙ sym (got-first c.self.inside.indexes.identities c.self.inside.events.items c.args.self.now.journal c.args.identity c.place.result
    (ap (λ (book : NotedJournal). book.journal) c.self.view_is) c.self.invariant.indexes.places c.place.ensures ∙ ap (option_and_then (slice_get c.self.inside.events.items)) c.in-Some.is)

pub returns-in-None : goal.returns-in-None
returns-in-None c =
    sym (got-first c.self.inside.indexes.identities c.self.inside.events.items c.args.self.now.journal c.args.identity c.place.result
    (ap (λ (book : NotedJournal). book.journal) c.self.view_is) c.self.invariant.indexes.places c.place.ensures ∙ ap (option_and_then (slice_get c.self.inside.events.items)) c.in-None.is)
