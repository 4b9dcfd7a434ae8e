-- What one event more does to what a journal says.
use Rattle.std.proofs.Common.{List, None, Option, Some, [], ap, append-nil, option_to_list, refl, ◌++◌, ◌∙◌, ◌∷◌, ◌≡◌}
use Rattle.std.proofs.lemmas.List.Elements.{filter_map-append}
use Rattle.std.specs.List.{cons_option}
use Rattle.agent_events.specs.Events.{Event}
use Rattle.agent_events.specs.declared.event.EventKind.{EventKind}
use Rattle.agent_events.specs.declared.request.DividendForm.{DividendForm}
use Rattle.agent_events.specs.declared.request.FixRateForm.{FixRateForm}
use Rattle.register_laws.proofs.Runs.{table-one}
use Rattle.register_laws.specs.OneEventMore.{PaymentsGoOn, RatesGoOn, TableGoesOn, rates_after}
use Rattle.register_machine.proofs.PaymentsMore.{payments-on}
use Rattle.register_machine.specs.journal.Journals.{Journal, with_event}
use Rattle.register_machine.specs.journal.Kinds.{dividend_in, each_in, rate_fix_in}
use Rattle.register_machine.specs.pricing.DividendRates.{Rates, rates_of}
use Rattle.register_machine.specs.pricing.PublishedTable.{empty_table, table_behind}

-- ---- kinds

one-chosen : {X : Type 0} (found : Option X) → cons_option found [] ≡ option_to_list found
one-chosen None = refl
one-chosen (Some x) = refl

pub gathers-on : {X : Type 0} (chosen : EventKind → Option X) (journal : Journal) (event : Event) → each_in chosen (with_event journal event) ≡ each_in chosen journal ++ option_to_list (chosen event.kind)
gathers-on chosen journal event =
    filter_map-append (λ (e : Event). chosen e.kind) journal (event ∷ [])
    ∙ ap (λ more. each_in chosen journal ++ more) (one-chosen (chosen event.kind))

-- ---- rates

rates-by : (rates : Rates) (kind : EventKind) → record { declared = rates.declared ++ option_to_list (dividend_in kind); fixed = rates.fixed ++ option_to_list (rate_fix_in kind) } ≡ rates_after rates kind
rates-by rates (EventKind.Dividend form) = ap (λ (fixed : List FixRateForm). record { declared = rates.declared ++ form ∷ []; fixed = fixed }) (append-nil rates.fixed)
rates-by rates (EventKind.FixRate form) = ap (λ (declared : List DividendForm). record { declared = declared; fixed = rates.fixed ++ form ∷ [] }) (append-nil rates.declared)
rates-by rates _ =
    ap (λ (declared : List DividendForm). record { declared = declared; fixed = rates.fixed ++ [] }) (append-nil rates.declared)
    ∙ ap (λ (fixed : List FixRateForm). record { declared = rates.declared; fixed = fixed }) (append-nil rates.fixed)

pub rates_go_on : (journal : Journal) (event : Event) → RatesGoOn journal event
rates_go_on journal event =
    ap (λ (declared : List DividendForm). record { declared = declared; fixed = each_in rate_fix_in (with_event journal event) }) (gathers-on dividend_in journal event)
    ∙ (ap (λ (fixed : List FixRateForm). record { declared = each_in dividend_in journal ++ option_to_list (dividend_in event.kind); fixed = fixed }) (gathers-on rate_fix_in journal event)
    ∙ rates-by (rates_of journal) event.kind)

-- ---- payments

pub payments_go_on : (journal : Journal) (event : Event) → PaymentsGoOn journal event
unfolding table_behind
payments_go_on journal event = payments-on empty_table [] journal event

pub table_goes_on : (journal : Journal) (event : Event) → TableGoesOn journal event
table_goes_on journal event = table-one journal event
