-- The orders with an event on trial, row by row.
use Rattle.std.proofs.Common.{List, None, Option, Some, ap, append-nil, filter, length, map, option_to_list, sym, ℕ, ◌++◌, ◌∙◌, ◌≡◌}
use Rattle.std.proofs.lemmas.List.{map-id}
use Rattle.std.proofs.lemmas.List.Elements.{filter-append}
use Rattle.agent_events.specs.Events.{Event}
use Rattle.agent_events.specs.declared.event.EventKind.{EventKind}
use Rattle.agent_events.specs.declared.order.OrderRow.{OrderRow}
use Rattle.order_book.specs.Trials.{TrialFits, row_after, row_begun, row_on_trial, with_trial}
use Rattle.register_laws.proofs.OrdersGoOn.{orders_go_on}
use Rattle.register_laws.specs.OneEventMore.{orders_after}
use Rattle.register_machine.specs.journal.Journals.{Journal}
use Rattle.register_machine.specs.pricing.CorrectedOrders.{order_begun, orders_of, stands}

after-by-row : (place : ℕ) (rows : List OrderRow) (kind : EventKind) → orders_after place rows kind ≡ map (row_after kind) rows ++ option_to_list (order_begun place kind)
after-by-row place rows (EventKind.Order placed) = ap (λ own. own ++ option_to_list (order_begun place (EventKind.Order placed))) (sym (map-id rows))
after-by-row place rows (EventKind.Enter form) = ap (λ own. own ++ option_to_list (order_begun place (EventKind.Enter form))) (sym (map-id rows))
after-by-row place rows (EventKind.Cancel form) = sym (append-nil (map (row_after (EventKind.Cancel form)) rows))
after-by-row place rows (EventKind.Void form) = sym (append-nil (map (row_after (EventKind.Void form)) rows))
after-by-row place rows (EventKind.Replace form) = sym (append-nil (map (row_after (EventKind.Replace form)) rows))
after-by-row place rows _ = sym (append-nil (map (λ (row : OrderRow). row) rows) ∙ map-id rows)

pub trial-by-row : (journal : Journal) (trial : Option Event) → TrialFits journal trial → orders_of (with_trial journal trial) ≡ map (row_on_trial trial) (orders_of journal) ++ option_to_list (row_begun (length journal) trial)
trial-by-row journal None fits = sym (append-nil (map (λ (row : OrderRow). row) (orders_of journal)) ∙ map-id (orders_of journal))
trial-by-row journal (Some event) fits = orders_go_on journal event fits.untouched ∙ after-by-row (length journal) (orders_of journal) event.kind

-- the standing ones: those among the rows as they are left, and the one that is begun
pub standing-by-row : (journal : Journal) (trial : Option Event) → TrialFits journal trial → filter stands (orders_of (with_trial journal trial)) ≡ filter stands (map (row_on_trial trial) (orders_of journal)) ++ filter stands (option_to_list (row_begun (length journal) trial))
standing-by-row journal trial fits =
    ap (filter stands) (trial-by-row journal trial fits)
    ∙ filter-append stands (map (row_on_trial trial) (orders_of journal)) (option_to_list (row_begun (length journal) trial))
