-- That `OrderBook::household` keeps its contract.
use Rattle.std.proofs.Common.{ap, sym, ◌∙◌}
use Rattle.std.specs.Prelude.{option_and_then}
use Rattle.agent_events.specs.Events.{Event}
use Rattle.order_book.proofs.LookUps.{household-found}
use Rattle.register_machine.specs.journal.Kinds.{household_in}
use Rattle.order_book.proofs.book.OrderBook.household.Goals as goal

pub returns-in-Some : goal.returns-in-Some
returns-in-Some c =
    c.household_in.ensures
    ∙ (ap household_in c.kind.ensures.kind
    ∙ sym (household-found c.args.self.now.journal c.args.number ∙ ap (option_and_then (λ (event : Event). household_in event.kind)) (sym c.in-Some.ensures)))

pub returns-in-None : goal.returns-in-None
returns-in-None c =
    sym (household-found c.args.self.now.journal c.args.number ∙ ap (option_and_then (λ (event : Event). household_in event.kind)) (sym c.in-None.ensures))
