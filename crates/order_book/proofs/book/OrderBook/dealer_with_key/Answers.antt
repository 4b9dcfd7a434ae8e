-- That `OrderBook::dealer_with_key` keeps its contract.
use Rattle.std.proofs.Common.{List, ap, sym, ◌∙◌}
use Rattle.std.specs.List.{slice_get}
use Rattle.std.specs.Prelude.{option_and_then, option_map}
use Rattle.agent_events.specs.Events.{Event}
use Rattle.agent_events.specs.declared.request.DealerForm.{DealerForm}
use Rattle.order_book.proofs.BookFound.{got-key}
use Rattle.order_book.proofs.LookUps.{dealer-key-found}
use Rattle.order_book.specs.Books.{NotedJournal}
use Rattle.order_book.specs.Brought.{dealer_key_in}
use Rattle.register_machine.specs.journal.Kinds.{dealer_in}
use Rattle.order_book.proofs.book.OrderBook.dealer_with_key.Goals as goal

pub returns-in-Some : goal.returns-in-Some
returns-in-Some c =
    c.dealer_number.ensures
    ∙ (ap (λ found. option_map (λ (form : DealerForm). form.dealer) (option_and_then (λ (event : Event). dealer_in event.kind) found)) (c.item_at.ensures ∙ ap (λ (es : List Event). slice_get es c.in-Some.place) c.as_slice.ensures.value)
    ∙ sym (dealer-key-found c.args.self.now.journal c.args.key.now
    ∙ ap (λ found. option_map (λ (form : DealerForm). form.dealer) (option_and_then (λ (event : Event). dealer_in event.kind) found)) (got-key dealer_key_in c.self.inside.indexes.dealer_keys c.self.inside.events.items c.args.self.now.journal c.args.key.now c.place.result
    (ap (λ (book : NotedJournal). book.journal) c.self.view_is) c.self.invariant.indexes.dealer_keys c.place.ensures ∙ ap (option_and_then (slice_get c.self.inside.events.items)) c.in-Some.is)))

pub returns-in-None : goal.returns-in-None
returns-in-None c =
    sym (dealer-key-found c.args.self.now.journal c.args.key.now
    ∙ ap (λ found. option_map (λ (form : DealerForm). form.dealer) (option_and_then (λ (event : Event). dealer_in event.kind) found)) (got-key dealer_key_in c.self.inside.indexes.dealer_keys c.self.inside.events.items c.args.self.now.journal c.args.key.now c.place.result
    (ap (λ (book : NotedJournal). book.journal) c.self.view_is) c.self.invariant.indexes.dealer_keys c.place.ensures ∙ ap (option_and_then (slice_get c.self.inside.events.items)) c.in-None.is))
