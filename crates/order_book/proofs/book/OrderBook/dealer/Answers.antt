-- That `OrderBook::dealer` keeps its contract.
use Rattle.std.proofs.Common.{ap, sym, ◌∙◌}
use Rattle.std.specs.Prelude.{option_and_then}
use Rattle.agent_events.specs.Events.{Event}
use Rattle.order_book.proofs.LookUps.{dealer-found}
use Rattle.register_machine.specs.journal.Kinds.{dealer_in}
use Rattle.order_book.proofs.book.OrderBook.dealer.Goals as goal

pub returns-in-Some : goal.returns-in-Some
returns-in-Some c =
    c.dealer_in.ensures
    ∙ (ap dealer_in c.kind.ensures.kind
    ∙ sym (dealer-found c.args.self.now.journal c.args.number ∙ ap (option_and_then (λ (event : Event). dealer_in event.kind)) (sym c.in-Some.ensures)))

pub returns-in-None : goal.returns-in-None
returns-in-None c =
    sym (dealer-found c.args.self.now.journal c.args.number ∙ ap (option_and_then (λ (event : Event). dealer_in event.kind)) (sym c.in-None.ensures))
