-- The proof of the law `sheets_take_what_they_price`.
use Rattle.std.proofs.Common.{[], subst, sym, ◌++◌, ◌∷◌}
use Rattle.agent_events.specs.declared.event.EventKind.{EventKind}
use Rattle.register_laws.specs.EventReplays.{sheet_behind}
use Rattle.register_machine.specs.journal.Journals.{with_event}
use Rattle.register_machine.specs.journal.Kinds.{accounts_of}
use Rattle.register_machine.specs.pricing.CorrectedOrders.{orders_of}
use Rattle.standing_orders.proofs.WaitingKept.{still_waits}
use Rattle.standing_orders.specs.Rows.{waits}
use Rattle.standing_orders.proofs.IndexSteps.{left-behind, owned-still, taken-left, waited-before}
use Rattle.standing_orders.proofs.waiting_laws.sheets_take_what_they_price.Goals as goal
use Rattle.standing_orders.specs.IndexOfJournals.{IsIndexOf, sheets_of}

pub returns : goal.returns
returns c journal event form owners waiting lawful kind is =
    let rows = orders_of journal in
    let new = sheet_behind journal form in
    let more = sheets_of journal ++ new ∷ [] in
    subst (IsIndexOf (with_event journal event) owners) (sym (taken-left journal event form waiting lawful kind is.all_wait))
    (left-behind journal event lawful (EventKind.Sheet form) kind owners waiting
    (owned-still (accounts_of journal) rows owners is.owned)
    is.within
    (still_waits (waits (sheets_of journal)) (waits more) rows rows waiting (λ place row there now. (row, there, waited-before (sheets_of journal) new row now)) is.enough))
