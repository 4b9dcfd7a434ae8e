-- That `OrderBook::dealer_at` keeps its contract.
use Rattle.std.proofs.Common.{List, ap, sym, ℕ, ◌∙◌}
use Rattle.std.specs.List.{slice_get}
use Rattle.std.specs.Prelude.{option_and_then}
use Rattle.agent_events.specs.Events.{Event}
use Rattle.order_book.proofs.BookFound.{got-dealer}
use Rattle.order_book.specs.Books.{NotedJournal}
use Rattle.register_machine.specs.journal.Kinds.{dealer_in}
use Rattle.order_book.proofs.book.OrderBook.dealer_at.Goals as goal

pub returns-in-Some : goal.returns-in-Some
returns-in-Some c =
    c.dealer_of.ensures
    ∙ (ap (option_and_then (λ (event : Event). dealer_in event.kind)) (c.item_at-in-Some.ensures ∙ ap (λ (es : List Event). slice_get es c.in-Some.place.now) c.as_slice.ensures.value)
    ∙ sym (got-dealer c.self.inside.indexes.numbers c.self.inside.events.items c.args.self.now.journal c.args.index (ap (λ (book : NotedJournal). book.journal) c.self.view_is) c.self.invariant.indexes.numbers
    ∙ ap (option_and_then (λ place. option_and_then (λ (event : Event). dealer_in event.kind) (slice_get c.self.inside.events.items place))) (ap (λ (places : List ℕ). slice_get places c.args.index) (sym c.dealers.ensures) ∙ sym c.in-Some.ensures)))

pub returns-in-None : goal.returns-in-None
returns-in-None c =
    sym (got-dealer c.self.inside.indexes.numbers c.self.inside.events.items c.args.self.now.journal c.args.index (ap (λ (book : NotedJournal). book.journal) c.self.view_is) c.self.invariant.indexes.numbers
    ∙ ap (option_and_then (λ place. option_and_then (λ (event : Event). dealer_in event.kind) (slice_get c.self.inside.events.items place))) (ap (λ (places : List ℕ). slice_get places c.args.index) (sym c.dealers.ensures) ∙ sym c.in-None.ensures))
