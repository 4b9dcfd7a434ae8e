-- That `OrderBook::dividend` keeps its contract.
use Rattle.std.proofs.Common.{ap, sym, ◌∙◌}
use Rattle.std.specs.Prelude.{option_and_then}
use Rattle.agent_events.specs.Events.{Event}
use Rattle.order_book.proofs.LookUps.{dividend-found}
use Rattle.register_machine.specs.journal.Kinds.{dividend_in}
use Rattle.order_book.proofs.book.OrderBook.dividend.Goals as goal

pub returns-in-Some : goal.returns-in-Some
returns-in-Some c =
    c.dividend_in.ensures
    ∙ (ap dividend_in c.kind.ensures.kind
    ∙ sym (dividend-found c.args.self.now.journal c.args.class c.args.moment ∙ ap (option_and_then (λ (event : Event). dividend_in event.kind)) (sym c.in-Some.ensures)))

pub returns-in-None : goal.returns-in-None
returns-in-None c =
    sym (dividend-found c.args.self.now.journal c.args.class c.args.moment ∙ ap (option_and_then (λ (event : Event). dividend_in event.kind)) (sym c.in-None.ensures))
