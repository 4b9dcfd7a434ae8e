-- What one event more does to the corrected prices.
use Rattle.std.proofs.Common.{Bool, List, None, Option, Some, [], ap, append-nil, cond, false, map, option_to_list, refl, sym, true, ℕ, ◌&&◌, ◌++◌, ◌+◌, ◌==◌, ◌||◌, ◌∙◌, ◌∷◌, ◌≡◌}
use Rattle.std.proofs.lemmas.Bool.{and_parts, eq-eqb, eqb-true}
use Rattle.std.proofs.lemmas.List.{length-map, map-append}
use Rattle.std.specs.List.{list_any}
use Rattle.std.specs.Option.{option_map_or}
use Rattle.agent_events.specs.Events.{Event}
use Rattle.agent_events.specs.Fields.{prices}
use Rattle.agent_events.specs.declared.event.EventKind.{EventKind}
use Rattle.agent_events.specs.declared.request.FixPriceForm.{FixPriceForm}
use Rattle.forward_price.specs.PriceTables.{Table, date_priced, sheet_published, with_prices, with_sheets}
use Rattle.forward_price.specs.Sheets.{lists_class}
use Rattle.forward_price.specs.declared.price_sheet.Sheet.{Sheet}
use Rattle.register_laws.proofs.OneEventMore.{gathers-on}
use Rattle.register_laws.proofs.Runs.{table-one}
use Rattle.register_laws.proofs.Tests.{any-split, any-within, last-of-more, last-of-none, not-true}
use Rattle.register_laws.specs.OneEventMore.{CorrectedTableGoesOn, corrected_table_by, fixes_sheet, is_unfixed}
use Rattle.register_machine.specs.journal.Choices.{last_of}
use Rattle.register_machine.specs.journal.Journals.{Journal, with_event}
use Rattle.register_machine.specs.journal.Kinds.{each_in, price_fix_in}
use Rattle.register_machine.specs.pricing.CorrectedPrices.{fixes_price, price_as_corrected, sheet_as_corrected, table_as_corrected}
use Rattle.register_machine.specs.pricing.PublishedTable.{table_by, table_of}

-- one correction more
price-fixed : (fixes : List FixPriceForm) (form : FixPriceForm) (moment : ℕ) (price : ℕ × ℕ) → price_as_corrected (fixes ++ form ∷ []) moment price ≡ price_as_corrected (form ∷ []) moment (price_as_corrected fixes moment price)
price-fixed fixes form moment price =
    ap (λ (nav : ℕ). (price.0, nav))
    (ap (λ found. option_map_or (λ (f : FixPriceForm). f.nav) found price.1) (last-of-more (fixes_price price.0 moment) fixes form)
    ∙ by_test (fixes_price price.0 moment form))
  where
    by_test : (b : Bool) → option_map_or (λ (f : FixPriceForm). f.nav) (cond b (Some form) (last_of (fixes_price price.0 moment) fixes)) price.1 ≡ option_map_or (λ (f : FixPriceForm). f.nav) (cond b (Some form) None) (option_map_or (λ (f : FixPriceForm). f.nav) (last_of (fixes_price price.0 moment) fixes) price.1)
    by_test true = refl
    by_test false = refl

prices-fixed : (fixes : List FixPriceForm) (form : FixPriceForm) (moment : ℕ) (prices : List (ℕ × ℕ)) → map (price_as_corrected (fixes ++ form ∷ []) moment) prices ≡ map (price_as_corrected (form ∷ []) moment) (map (price_as_corrected fixes moment) prices)
prices-fixed fixes form moment [] = refl
prices-fixed fixes form moment (price ∷ prices) =
    ap (λ p. p ∷ map (price_as_corrected (fixes ++ form ∷ []) moment) prices) (price-fixed fixes form moment price)
    ∙ ap (λ ps. price_as_corrected (form ∷ []) moment (price_as_corrected fixes moment price) ∷ ps) (prices-fixed fixes form moment prices)

sheets-fixed : (fixes : List FixPriceForm) (form : FixPriceForm) (sheets : List Sheet) → map (sheet_as_corrected (fixes ++ form ∷ [])) sheets ≡ map (sheet_as_corrected (form ∷ [])) (map (sheet_as_corrected fixes) sheets)
sheets-fixed fixes form [] = refl
sheets-fixed fixes form (sheet ∷ sheets) =
    ap (λ prices. with_prices sheet prices ∷ map (sheet_as_corrected (fixes ++ form ∷ [])) sheets) (prices-fixed fixes form sheet.moment sheet.prices)
    ∙ ap (λ all. sheet_as_corrected (form ∷ []) (sheet_as_corrected fixes sheet) ∷ all) (sheets-fixed fixes form sheets)

-- ---- a sheet that no correction names

abbrev pub fixes_of : ℕ → List (ℕ × ℕ) → FixPriceForm → Bool
fixes_of moment prices fix = moment == fix.moment && lists_class prices fix.class

either : (a b c : Bool) → (a && (b || c)) ≡ ((a && b) || (a && c))
either true b c = refl
either false b c = refl

pub prices-kept : (fixes : List FixPriceForm) (moment : ℕ) (prices : List (ℕ × ℕ)) → list_any (fixes_of moment prices) fixes ≡ false → map (price_as_corrected fixes moment) prices ≡ prices
prices-kept fixes moment [] none = refl
prices-kept fixes moment (price ∷ prices) none =
    ap (λ (found : Option FixPriceForm). (price.0, option_map_or (λ f. f.nav) found price.1) ∷ map (price_as_corrected fixes moment) prices) (last-of-none (fixes_price price.0 moment) fixes first)
    ∙ ap (λ ps. price ∷ ps) (prices-kept fixes moment prices later)
  where
    parts : (list_any (λ (fix : FixPriceForm). moment == fix.moment && price.0 == fix.class) fixes ≡ false) × (list_any (fixes_of moment prices) fixes ≡ false)
    parts =
        any-split (fixes_of moment (price ∷ prices)) (λ fix. moment == fix.moment && price.0 == fix.class) (fixes_of moment prices) fixes
        (λ fix. either (moment == fix.moment) (price.0 == fix.class) (lists_class prices fix.class)) none

    later : list_any (fixes_of moment prices) fixes ≡ false
    later = parts.1

    turned : (fix : FixPriceForm) → fixes_price price.0 moment fix ≡ true → (moment == fix.moment && price.0 == fix.class) ≡ true
    turned fix e =
        let both = and_parts (fix.class == price.0) (fix.moment == moment) e in
        ap (λ b. b && price.0 == fix.class) (eq-eqb moment fix.moment (sym (eqb-true fix.moment moment both.1)))
        ∙ eq-eqb price.0 fix.class (sym (eqb-true fix.class price.0 both.0))

    first : list_any (fixes_price price.0 moment) fixes ≡ false
    first = any-within (fixes_price price.0 moment) (λ fix. moment == fix.moment && price.0 == fix.class) fixes turned parts.0

-- ---- by the kind of the event

abbrev with_fixes : List FixPriceForm → Table → Table
with_fixes fixes table = with_sheets table (map (sheet_as_corrected fixes) table.sheets)

corrected-by : (journal : Journal) (table : Table) (moment : ℕ) (kind : EventKind) → is_unfixed journal kind ≡ true → with_fixes (each_in price_fix_in journal ++ option_to_list (price_fix_in kind)) (table_by table moment kind) ≡ corrected_table_by (with_fixes (each_in price_fix_in journal) table) moment kind
corrected-by journal table moment (EventKind.FixPrice form) unfixed =
    ap (with_sheets table) (sheets-fixed (each_in price_fix_in journal) form table.sheets)
corrected-by journal table moment (EventKind.Sheet form) unfixed =
    ap (λ fixes. with_sheets table (map (sheet_as_corrected fixes) (table.sheets ++ sheet_published table form.calendar form.moment form.prices ∷ []))) (append-nil (each_in price_fix_in journal))
    ∙ (ap (with_sheets table) (map-append (sheet_as_corrected (each_in price_fix_in journal)) table.sheets (sheet_published table form.calendar form.moment form.prices ∷ []))
    ∙ (ap (λ prices. with_sheets table (map (sheet_as_corrected (each_in price_fix_in journal)) table.sheets ++ with_prices (sheet_published table form.calendar form.moment form.prices) prices ∷ [])) (prices-kept (each_in price_fix_in journal) form.moment form.prices (not-true (list_any (fixes_sheet form) (each_in price_fix_in journal)) unfixed))
    ∙ ap (λ (count : ℕ). with_sheets table (map (sheet_as_corrected (each_in price_fix_in journal)) table.sheets ++ record { number = count + 1; calendar = form.calendar; moment = form.moment; day = date_priced table.calendars form.calendar form.moment; prices = form.prices } ∷ [])) (sym (length-map table.sheets (sheet_as_corrected (each_in price_fix_in journal))))))
corrected-by journal table moment kind unfixed =
    ap (λ fixes. with_fixes fixes (table_by table moment kind)) (append-nil (each_in price_fix_in journal))

pub corrected_table_goes_on : (journal : Journal) (event : Event) → CorrectedTableGoesOn journal event
corrected_table_goes_on journal event unfixed =
    ap (λ table. table_as_corrected (with_event journal event) table) (table-one journal event)
    ∙ (ap (λ fixes. with_fixes fixes (table_by (table_of journal) event.moment event.kind)) (gathers-on price_fix_in journal event)
    ∙ corrected-by journal (table_of journal) event.moment event.kind unfixed)
