-- The payments of a journal with an event more are those before and that event's.
use Rattle.std.proofs.Common.{List, [], ap, append-nil, append_assoc, fold, sym, ◌++◌, ◌∙◌, ◌∷◌, ◌≡◌}
use Rattle.agent_events.specs.Events.{Event}
use Rattle.forward_price.specs.PriceTables.{Table}
use Rattle.register_machine.specs.corrections.Cash.{Movement}
use Rattle.register_machine.specs.corrections.Payments.{bearer_in, payments_for, payments_from}
use Rattle.register_machine.specs.journal.Journals.{Journal, with_event}
use Rattle.register_machine.specs.pricing.PublishedTable.{table_after}

pub payments-on : (table : Table) (before later : Journal) (event : Event) → payments_from table before (later ++ event ∷ []) ≡ payments_from table before later ++ payments_for (bearer_in event.kind) (fold table_after table later) (before ++ later) event
payments-on table before [] event =
    append-nil (payments_for (bearer_in event.kind) table before event)
    ∙ ap (λ (j : Journal). payments_for (bearer_in event.kind) table j event) (sym (append-nil before))
payments-on table before (first ∷ later) event =
    let paid = payments_for (bearer_in first.kind) table before first in
    ap (λ (ms : List Movement). paid ++ ms) (payments-on (table_after table first) (with_event before first) later event)
    ∙ (sym (append_assoc paid (payments_from (table_after table first) (with_event before first) later) (payments_for (bearer_in event.kind) (fold table_after (table_after table first) later) (with_event before first ++ later) event))
    ∙ ap (λ (known : Journal). (paid ++ payments_from (table_after table first) (with_event before first) later) ++ payments_for (bearer_in event.kind) (fold table_after (table_after table first) later) known event) (append_assoc before (first ∷ []) later))
