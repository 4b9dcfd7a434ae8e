-- That `OrderBook::class` keeps its contract.
use Rattle.std.proofs.Common.{ap, sym, ◌∙◌}
use Rattle.std.specs.Prelude.{option_and_then}
use Rattle.agent_events.specs.Events.{Event}
use Rattle.order_book.proofs.LookUps.{class-found}
use Rattle.register_machine.specs.journal.Kinds.{class_in}
use Rattle.order_book.proofs.book.OrderBook.class.Goals as goal

pub returns-in-Some : goal.returns-in-Some
returns-in-Some c =
    c.class_in.ensures
    ∙ (ap class_in c.kind.ensures.kind
    ∙ sym (class-found c.args.self.now.journal c.args.number ∙ ap (option_and_then (λ (event : Event). class_in event.kind)) (sym c.in-Some.ensures)))

pub returns-in-None : goal.returns-in-None
returns-in-None c =
    sym (class-found c.args.self.now.journal c.args.number ∙ ap (option_and_then (λ (event : Event). class_in event.kind)) (sym c.in-None.ensures))
