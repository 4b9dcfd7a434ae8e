-- What the sheets of a lawful journal's corrected table have: classes that the journal brought.
use Rattle.std.proofs.Common.{All, List, None, [], get_or, refl, subst, sym, true, ℕ, ◌==◌, ◌∙◌, ◌≡◌}
use Rattle.std.proofs.lemmas.Bool.{and_parts}
use Rattle.std.proofs.lemmas.List.Elements.{All-map, All-nil, All-push}
use Rattle.std.specs.List.{list_any}
use Rattle.agent_events.specs.Events.{Event, request_of}
use Rattle.agent_events.specs.declared.event.EventKind.{EventKind}
use Rattle.agent_events.specs.declared.request.ClassForm.{ClassForm}
use Rattle.forward_price.specs.PriceTables.{Table, sheet_published}
use Rattle.forward_price.specs.Sheets.{lists_class}
use Rattle.forward_price.specs.declared.price_sheet.Sheet.{Sheet}
use Rattle.register_laws.proofs.LawfulJournals.{lawful-keeps}
use Rattle.register_laws.proofs.OneEventMore.{table_goes_on}
use Rattle.register_laws.proofs.PricesAnew.{is_of, more-still, sheet-complete}
use Rattle.register_laws.proofs.Tests.{any-of-map, any-with}
use Rattle.register_laws.specs.Identities.{is_class}
use Rattle.register_laws.specs.Lawful.{IsBrought, own_at}
use Rattle.register_laws.specs.OneEventMore.{corrected_table}
use Rattle.register_machine.specs.journal.Journals.{Journal, with_event}
use Rattle.register_machine.specs.journal.Kinds.{class_in, classes_of, each_in, price_fix_in}
use Rattle.register_machine.specs.journal.Lawful.{IsLawful}
use Rattle.register_machine.specs.pricing.CorrectedPrices.{price_as_corrected, sheet_as_corrected}
use Rattle.register_machine.specs.pricing.PublishedTable.{table_behind, table_by, table_of}
use Rattle.register_machine.specs.rules.InOrder.{broken_rule}

-- ---- classes

abbrev ListsKnown : Journal → ℕ → Sheet → Type 0
ListsKnown journal class sheet =
    lists_class sheet.prices class ≡ true → list_any (is_class class) (classes_of journal) ≡ true

of-class : (class calendar : ℕ) (forms : List ClassForm) → list_any (is_of class calendar) forms ≡ true → list_any (is_class class) forms ≡ true
of-class class calendar forms e =
    let found = any-with (is_of class calendar) forms e in
    found.2 (is_class class) (and_parts (found.0.class == class) (found.0.calendar == calendar) found.1).0

known-still : (journal : Journal) (event : Event) (class : ℕ) (sheet : Sheet) → ListsKnown journal class sheet → ListsKnown (with_event journal event) class sheet
known-still journal event class sheet known lists = more-still class_in (is_class class) journal event (known lists)

known-by : (journal : Journal) (event : Event) (class : ℕ) (kind : EventKind) → IsLawful journal → event.kind ≡ kind → IsBrought journal event → All (ListsKnown journal class) (table_of journal).sheets → All (ListsKnown (with_event journal event) class) (table_by (table_of journal) event.moment kind).sheets
known-by journal event class (EventKind.Sheet form) lawful is brought all =
    let clear = subst (λ kind. broken_rule (own_at journal event.moment brought.caller) (request_of kind) ≡ None) is brought.clear in
    All-push (ListsKnown (with_event journal event) class) (table_of journal).sheets (sheet_published (table_of journal) form.calendar form.moment form.prices)
    (λ k d short. known-still journal event class (get_or (table_of journal).sheets k d) (all k d short))
    (λ lists.
    more-still class_in (is_class class) journal event
    (of-class class form.calendar (classes_of journal) (sheet-complete journal event.moment brought.caller form class lawful clear lists)))
known-by journal event class (EventKind.Calendar form) lawful is brought all =
    λ k d short. known-still journal event class (get_or (table_of journal).sheets k d) (all k d short)
known-by journal event class (EventKind.Close form) lawful is brought all =
    λ k d short. known-still journal event class (get_or (table_of journal).sheets k d) (all k d short)
known-by journal event class (EventKind.Class form) lawful is brought all =
    λ k d short. known-still journal event class (get_or (table_of journal).sheets k d) (all k d short)
known-by journal event class _ lawful is brought all =
    λ k d short. known-still journal event class (get_or (table_of journal).sheets k d) (all k d short)

none-listed : (class : ℕ) → All (ListsKnown [] class) (table_of []).sheets
unfolding table_behind
none-listed class = All-nil (ListsKnown [] class)

sheets-known : (class : ℕ) (journal : Journal) → IsLawful journal → All (ListsKnown journal class) (table_of journal).sheets
sheets-known class =
    lawful-keeps (λ journal. All (ListsKnown journal class) (table_of journal).sheets)
    (λ journal event lawful brought all.
    subst (λ (table : Table). All (ListsKnown (with_event journal event) class) table.sheets) (sym (table_goes_on journal event))
    (known-by journal event class event.kind lawful refl brought all))
    (none-listed class)

pub corrected-known : (journal : Journal) (class : ℕ) → IsLawful journal → All (λ sheet. lists_class sheet.prices class ≡ true → list_any (is_class class) (classes_of journal) ≡ true) (corrected_table journal).sheets
corrected-known journal class lawful =
    let fixes = each_in price_fix_in journal in
    All-map (ListsKnown journal class) (sheet_as_corrected fixes) (table_of journal).sheets
    (λ k d short lists.
    let sheet = get_or (table_of journal).sheets k d in
    sheets-known class journal lawful k d short
    (sym (any-of-map (λ price. price.0 == class) (price_as_corrected fixes sheet.moment) sheet.prices) ∙ lists))
