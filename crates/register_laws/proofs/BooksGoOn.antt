-- The corrected book of a lawful journal goes on by each of its events.
use Rattle.std.proofs.Common.{List, ap, length, option_to_list, ◌++◌, ◌∙◌}
use Rattle.agent_events.specs.Events.{Event}
use Rattle.agent_events.specs.declared.order.OrderRow.{OrderRow}
use Rattle.agent_events.specs.declared.request.AccountForm.{AccountForm}
use Rattle.agent_events.specs.declared.request.ClassForm.{ClassForm}
use Rattle.forward_price.specs.PriceTables.{Table}
use Rattle.register_laws.proofs.NothingBefore.{begins_anew}
use Rattle.register_laws.proofs.OneEventMore.{gathers-on, rates_go_on}
use Rattle.register_laws.proofs.OrdersGoOn.{orders_go_on}
use Rattle.register_laws.proofs.PricesAnew.{prices_anew}
use Rattle.register_laws.proofs.TablesGoOn.{corrected_table_goes_on}
use Rattle.register_laws.specs.OneEventMore.{BookGoesOn, LawfulBookGoesOn, TouchesNothing, corrected_table, corrected_table_by, orders_after}
use Rattle.register_machine.specs.journal.Journals.{Journal, with_event}
use Rattle.register_machine.specs.journal.Kinds.{account_in, accounts_of, class_in, classes_of}
use Rattle.register_machine.specs.journal.Lawful.{IsLawful}
use Rattle.register_machine.specs.pricing.CorrectedOrders.{orders_of}
use Rattle.register_machine.specs.pricing.DividendRates.{Rates, rates_of}

pub book_goes_on_by : (journal : Journal) (event : Event) → BookGoesOn journal event
book_goes_on_by journal event is =
    ap (λ (table : Table). record { table = table; classes = classes_of (with_event journal event); accounts = accounts_of (with_event journal event); orders = orders_of (with_event journal event); rates = rates_of (with_event journal event) }) (corrected_table_goes_on journal event is.unfixed)
    ∙ (ap (λ (classes : List ClassForm). record { table = corrected_table_by (corrected_table journal) event.moment event.kind; classes = classes; accounts = accounts_of (with_event journal event); orders = orders_of (with_event journal event); rates = rates_of (with_event journal event) }) (gathers-on class_in journal event)
    ∙ (ap (λ (accounts : List AccountForm). record { table = corrected_table_by (corrected_table journal) event.moment event.kind; classes = classes_of journal ++ option_to_list (class_in event.kind); accounts = accounts; orders = orders_of (with_event journal event); rates = rates_of (with_event journal event) }) (gathers-on account_in journal event)
    ∙ (ap (λ (orders : List OrderRow). record { table = corrected_table_by (corrected_table journal) event.moment event.kind; classes = classes_of journal ++ option_to_list (class_in event.kind); accounts = accounts_of journal ++ option_to_list (account_in event.kind); orders = orders; rates = rates_of (with_event journal event) }) (orders_go_on journal event is.begins)
    ∙ ap (λ (rates : Rates). record { table = corrected_table_by (corrected_table journal) event.moment event.kind; classes = classes_of journal ++ option_to_list (class_in event.kind); accounts = accounts_of journal ++ option_to_list (account_in event.kind); orders = orders_after (length journal) (orders_of journal) event.kind; rates = rates }) (rates_go_on journal event))))

pub touches_nothing : (journal : Journal) (event : Event) → IsLawful (with_event journal event) → TouchesNothing journal event
touches_nothing journal event all = record { begins = (begins_anew journal event all).begins; unfixed = (prices_anew journal event all).unfixed }

pub book_goes_on : (journal : Journal) (event : Event) → LawfulBookGoesOn journal event
book_goes_on journal event all = book_goes_on_by journal event (touches_nothing journal event all)
