-- No price of a sheet was corrected before a lawful journal publishes it: what is corrected stands on a published sheet, and a
-- class has one sheet a moment.
use Rattle.std.proofs.lemmas.List.Folds.{list_any_none}
use Rattle.std.proofs.Common.{Bool, List, None, Option, Some, [], ap, arith, cond, false, filter, inl, inr, nat_lt, length, map, not, option_to_list, refl, subst, sym, true, ℕ, ⊎_elim, ◌&&◌, ◌++◌, ◌==◌, ◌||◌, ◌∙◌, ◌∷◌, ◌≡◌, ◌≤◌, ◌⊎◌}
use Rattle.std.proofs.Math.Bool.{or-false}
use Rattle.std.proofs.lemmas.Bool.{and_parts, eq-eqb, eqb-true, true≢false}
use Rattle.std.proofs.lemmas.List.Folds.{list_any-append}
use Rattle.std.specs.List.{list_any}
use Rattle.std.specs.Option.{option_map_or}
use Rattle.agent_events.specs.Events.{Event, request_of}
use Rattle.agent_events.specs.Fields.{pair, prices}
use Rattle.agent_events.specs.declared.event.EventKind.{EventKind}
use Rattle.agent_events.specs.declared.request.ClassForm.{ClassForm}
use Rattle.agent_events.specs.declared.request.FixPriceForm.{FixPriceForm}
use Rattle.agent_events.specs.declared.request.Request.{Request}
use Rattle.agent_events.specs.declared.request.SheetForm.{SheetForm}
use Rattle.forward_price.proofs.CompleteFacts.{none_wrong}
use Rattle.forward_price.specs.PriceTables.{Table, sheet_published}
use Rattle.forward_price.specs.Sheets.{lists_class}
use Rattle.forward_price.specs.Turns.{class_numbers, expected_of, fault_of, is_offered_at, is_pair, is_wrong, list_fault, must_list, price_numbers, wrong_class}
use Rattle.forward_price.specs.declared.price_sheet.Opening.{Opening}
use Rattle.forward_price.specs.declared.price_sheet.PublishFault.{PublishFault}
use Rattle.forward_price.specs.declared.price_sheet.Sheet.{Sheet}
use Rattle.register_laws.proofs.Choosing.{some_none}
use Rattle.register_laws.proofs.LawfulJournals.{brought, lawful-keeps}
use Rattle.register_laws.proofs.LotParts.{some}
use Rattle.register_laws.proofs.NoIdentityTwice.{no_class_twice}
use Rattle.register_laws.proofs.NoPricingTwice.{no_sheet_twice}
use Rattle.register_laws.proofs.NothingBefore.{all-named, last-brought}
use Rattle.register_laws.proofs.OneEventMore.{gathers-on}
use Rattle.register_laws.proofs.RulesByName.{not_broken}
use Rattle.register_laws.proofs.Runs.{table-one}
use Rattle.register_laws.proofs.TablesGoOn.{corrected_table_goes_on}
use Rattle.register_laws.proofs.Tests.{any-after, any-front, any-of-map, any-with, at-most-before, is-false}
use Rattle.register_laws.specs.Identities.{is_class, publishes}
use Rattle.register_laws.specs.Lawful.{IsBrought, own_at}
use Rattle.register_laws.specs.OneEventMore.{LawfulPricesAnew, fixes_sheet, is_unfixed}
use Rattle.register_machine.specs.journal.Journals.{Journal, with_event}
use Rattle.register_machine.specs.journal.Kinds.{class_in, classes_of, each_in, price_fix_in, sheet_in}
use Rattle.register_machine.specs.journal.Lawful.{IsLawful}
use Rattle.register_machine.specs.pricing.CorrectedPrices.{fixes_price, price_as_corrected, sheet_as_corrected}
use Rattle.register_machine.specs.pricing.PublishedTable.{empty_table, table_behind, table_by, table_of}
use Rattle.agent_events.specs.declared.verdict.Caller.{Caller}
use Rattle.register_machine.specs.rules.InOrder.{Rule, broken_rule}
use Rattle.register_machine.specs.rules.NamedThings.{has_price, lists_at, things_named}
use Rattle.register_machine.specs.rules.Sheets.{incomplete, out_of_turn, sheet_fault, too_soon}
use Rattle.forward_price.specs.declared.price_sheet.PublishFault.TheVariants as publish_fault

-- ---- what the price table has of sheets and classes

one-any : {X : Type 0} (test : X → Bool) (found : Option X) → list_any test (option_to_list found) ≡ option_map_or test found false
one-any test None = refl
one-any test (Some x) = or-false (test x)

-- where each event brings to a table's sight what it says, a journal's table sees what its events say
sees-more : {X : Type 0} (seen : Table → Bool) (chosen : EventKind → Option X) (test : X → Bool) → ((table : Table) (moment : ℕ) (kind : EventKind) → seen (table_by table moment kind) ≡ (seen table || option_map_or test (chosen kind) false)) → seen empty_table ≡ false → (journal : Journal) → IsLawful journal → seen (table_of journal) ≡ list_any test (each_in chosen journal)
unfolding table_behind
sees-more seen chosen test step none =
    lawful-keeps (λ journal. seen (table_of journal) ≡ list_any test (each_in chosen journal))
    (λ journal event lawful brought same.
    ap seen (table-one journal event)
    ∙ (step (table_of journal) event.moment event.kind
    ∙ (ap (λ b. b || option_map_or test (chosen event.kind) false) same
    ∙ (ap (λ b. list_any test (each_in chosen journal) || b) (sym (one-any test (chosen event.kind)))
    ∙ (sym (list_any-append test (each_in chosen journal) (option_to_list (chosen event.kind)))
    ∙ ap (list_any test) (sym (gathers-on chosen journal event)))))))
    none

-- a sheet of a moment that lists a class
abbrev prices_class : ℕ → ℕ → SheetForm → Bool
prices_class class moment form = form.moment == moment && lists_class form.prices class

sheet-step : (class at : ℕ) (table : Table) (moment : ℕ) (kind : EventKind) → list_any (lists_at class at) (table_by table moment kind).sheets ≡ (list_any (lists_at class at) table.sheets || option_map_or (prices_class class at) (sheet_in kind) false)
sheet-step class at table moment (EventKind.Sheet form) =
    list_any-append (lists_at class at) table.sheets (sheet_published table form.calendar form.moment form.prices ∷ [])
    ∙ ap (λ b. list_any (lists_at class at) table.sheets || b) (or-false (form.moment == at && lists_class form.prices class))
sheet-step class at table moment (EventKind.Calendar form) = sym (or-false (list_any (lists_at class at) table.sheets))
sheet-step class at table moment _ = sym (or-false (list_any (lists_at class at) table.sheets))

sheets-seen : (class at : ℕ) (journal : Journal) → IsLawful journal → list_any (lists_at class at) (table_of journal).sheets ≡ list_any (prices_class class at) (each_in sheet_in journal)
sheets-seen class at journal lawful =
    sees-more (λ table. list_any (lists_at class at) table.sheets) sheet_in (prices_class class at) (sheet-step class at) refl journal lawful

-- corrections leave them
corrected-seen : (fixes : List FixPriceForm) (class at : ℕ) (sheets : List Sheet) → list_any (lists_at class at) (map (sheet_as_corrected fixes) sheets) ≡ list_any (lists_at class at) sheets
corrected-seen fixes class at [] = refl
corrected-seen fixes class at (sheet ∷ sheets) =
    ap (λ b. (sheet.moment == at && b) || list_any (lists_at class at) (map (sheet_as_corrected fixes) sheets)) (any-of-map (λ price. price.0 == class) (price_as_corrected fixes sheet.moment) sheet.prices)
    ∙ ap (λ b. lists_at class at sheet || b) (corrected-seen fixes class at sheets)

-- a class of a calendar
abbrev pub opens : ℕ → ℕ → Opening → Bool
opens class calendar opening = opening.class == class && opening.calendar == calendar

abbrev pub is_of : ℕ → ℕ → ClassForm → Bool
is_of class calendar form = form.class == class && form.calendar == calendar

class-step : (class calendar : ℕ) (table : Table) (moment : ℕ) (kind : EventKind) → list_any (opens class calendar) (table_by table moment kind).classes ≡ (list_any (opens class calendar) table.classes || option_map_or (is_of class calendar) (class_in kind) false)
class-step class calendar table moment (EventKind.Class form) =
    list_any-append (opens class calendar) table.classes (record { class = form.class; calendar = form.calendar; opened = moment } ∷ [])
    ∙ ap (λ b. list_any (opens class calendar) table.classes || b) (or-false (form.class == class && form.calendar == calendar))
class-step class calendar table moment _ = sym (or-false (list_any (opens class calendar) table.classes))

classes-seen : (class calendar : ℕ) (journal : Journal) → IsLawful journal → list_any (opens class calendar) (table_of journal).classes ≡ list_any (is_of class calendar) (classes_of journal)
classes-seen class calendar journal lawful =
    sees-more (λ table. list_any (opens class calendar) table.classes) class_in (is_of class calendar) (class-step class calendar) refl journal lawful

-- a class has one calendar
one-calendar : (class one other : ℕ) (forms : List ClassForm) → length (filter (is_class class) forms) ≤ 1 → list_any (is_of class one) forms ≡ true → list_any (is_of class other) forms ≡ true → one ≡ other
one-calendar class one other [] few here there = absurd (true≢false (sym here))
one-calendar class one other (form ∷ forms) few here there =
    by_class (form.class == class) few here there (one-calendar class one other forms)
  where
    within : (calendar : ℕ) → list_any (is_of class calendar) forms ≡ true → 1 ≤ length (filter (is_class class) forms)
    within calendar e = among forms e
      where
        among : (xs : List ClassForm) → list_any (is_of class calendar) xs ≡ true → 1 ≤ length (filter (is_class class) xs)
        among [] h = absurd (true≢false (sym h))
        among (x ∷ xs) h =
            elim (x.class == class) as (λ b. ((b && x.calendar == calendar) || list_any (is_of class calendar) xs) ≡ true → 1 ≤ length (cond b (x ∷ filter (is_class class) xs) (filter (is_class class) xs))) [
              | true ↦ λ _. omega arith
              | false ↦ λ later. among xs later
            ] h

    none : length (form ∷ filter (is_class class) forms) ≤ 1 → (calendar : ℕ) → list_any (is_of class calendar) forms ≡ false
    none all calendar = is-false (list_any (is_of class calendar) forms) (λ e. many (within calendar e) all)
      where
        many : 1 ≤ length (filter (is_class class) forms) → length (form ∷ filter (is_class class) forms) ≤ 1 → ⊥
        many some two = omega (arith, some, two)

    at : (calendar : ℕ) → (form.calendar == calendar || list_any (is_of class calendar) forms) ≡ true → list_any (is_of class calendar) forms ≡ false → form.calendar ≡ calendar
    at calendar e rest =
        eqb-true form.calendar calendar
        (sym (or-false (form.calendar == calendar)) ∙ (ap (λ b. form.calendar == calendar || b) (sym rest) ∙ e))

    by_class : (is : Bool) → length (cond is (form ∷ filter (is_class class) forms) (filter (is_class class) forms)) ≤ 1 → ((is && form.calendar == one) || list_any (is_of class one) forms) ≡ true → ((is && form.calendar == other) || list_any (is_of class other) forms) ≡ true → (length (filter (is_class class) forms) ≤ 1 → list_any (is_of class one) forms ≡ true → list_any (is_of class other) forms ≡ true → one ≡ other) → one ≡ other
    by_class true all first second later =
        sym (at one first (none all one)) ∙ at other second (none all other)
    by_class false all first second later = later all first second

-- ---- what a sheet lists

-- a sheet without a fault has a complete list
faultless : (found : Option PublishFault) → out_of_turn found ≡ None → incomplete found ≡ None → too_soon found ≡ None → found ≡ None
faultless None turn list soon = refl
faultless (Some (publish_fault.SheetOutOfTurn moment calendar)) turn list soon = absurd (some_none turn)
faultless (Some (publish_fault.SheetIncomplete class)) turn list soon = absurd (some_none list)
faultless (Some (publish_fault.TooSoon moment)) turn list soon = absurd (some_none soon)

complete-list : (expected : Option (ℕ × ℕ)) (wrong : Option ℕ) (calendar : ℕ) (moment now : ℕ) → fault_of expected wrong calendar moment now ≡ None → wrong ≡ None
complete-list None wrong calendar moment now e = absurd (some_none e)
complete-list (Some pair) wrong calendar moment now e = by_turn (is_pair calendar moment pair) wrong e
  where
    by_turn : (turn : Bool) (found : Option ℕ) → cond turn (list_fault found moment now) (Some (publish_fault.SheetOutOfTurn pair.0 pair.1)) ≡ None → found ≡ None
    by_turn true None h = refl
    by_turn true (Some class) h = absurd (some_none h)
    by_turn false found h = absurd (some_none h)

listed-opened : (classes : List Opening) (calendar : ℕ) (moment : ℕ) (prices : List (ℕ × ℕ)) (class : ℕ) → wrong_class classes calendar moment prices ≡ None → lists_class prices class ≡ true → list_any (opens class calendar) classes ≡ true
listed-opened classes calendar moment prices class complete lists = opened must
  where
    right : list_any (λ (price : ℕ × ℕ). is_wrong classes calendar moment prices price.0) prices ≡ false
    right =
        sym (any-of-map (is_wrong classes calendar moment prices) (λ (price : ℕ × ℕ). price.0) prices)
        ∙ (any-front (is_wrong classes calendar moment prices) (class_numbers classes) (price_numbers prices)
        (list_any_none (is_wrong classes calendar moment prices) (class_numbers classes ++ price_numbers prices) (none_wrong classes calendar moment prices complete))).1

    listed : (price : ℕ × ℕ) × ((price.0 == class) ≡ true) × ((other : ℕ × ℕ → Bool) → other price ≡ true → list_any other prices ≡ true)
    listed = any-with (λ (price : ℕ × ℕ). price.0 == class) prices lists

    must : must_list classes calendar moment class ≡ true
    must = by_must (must_list classes calendar moment class) refl
      where
        by_must : (is : Bool) → must_list classes calendar moment class ≡ is → is ≡ true
        by_must true e = refl
        by_must false e =
            absurd
            (true≢false
            (sym
            (listed.2 (λ price. is_wrong classes calendar moment prices price.0)
            (ap (is_wrong classes calendar moment prices) (eqb-true listed.0.0 class listed.1)
            ∙ (ap (λ b. cond b (not (must_list classes calendar moment class)) (must_list classes calendar moment class)) lists ∙ ap not e)))
            ∙ right))

    opened : must_list classes calendar moment class ≡ true → list_any (opens class calendar) classes ≡ true
    opened e =
        let found = any-with (λ (o : Opening). o.class == class && is_offered_at calendar moment o) classes e in
        let both = and_parts (found.0.class == class) (is_offered_at calendar moment found.0) found.1 in
        let of = and_parts (found.0.calendar == calendar) (nat_lt found.0.opened moment) both.1 in
        found.2 (opens class calendar) (ap (λ b. b && found.0.calendar == calendar) both.0 ∙ of.0)

pub sheet-complete : (journal : Journal) (now : ℕ) (caller : Caller) (form : SheetForm) (class : ℕ) → IsLawful journal → broken_rule (own_at journal now caller) (Request.Sheet form) ≡ None → lists_class form.prices class ≡ true → list_any (is_of class form.calendar) (classes_of journal) ≡ true
sheet-complete journal now caller form class lawful clear lists =
    sym (classes-seen class form.calendar journal lawful)
    ∙ listed-opened (table_of journal).classes form.calendar form.moment form.prices class
    (complete-list (expected_of (own_at journal now caller).book.table) (wrong_class (table_of journal).classes form.calendar form.moment form.prices) form.calendar form.moment now
    (faultless (sheet_fault (own_at journal now caller) (Request.Sheet form))
    (not_broken (own_at journal now caller) (Request.Sheet form) clear Rule.SheetOutOfTurn)
    (not_broken (own_at journal now caller) (Request.Sheet form) clear Rule.SheetIncomplete)
    (not_broken (own_at journal now caller) (Request.Sheet form) clear Rule.TooSoon)))
    lists

-- ---- what a lawful journal keeps of sheets and corrections

pub record PricesKnown (journal : Journal) : Type 0 where
  fixed : (class moment : ℕ) → list_any (fixes_price class moment) (each_in price_fix_in journal) ≡ true → list_any (prices_class class moment) (each_in sheet_in journal) ≡ true
  listed : (class calendar : ℕ) → list_any (λ (form : SheetForm). lists_class form.prices class && form.calendar == calendar) (each_in sheet_in journal) ≡ true → list_any (is_of class calendar) (classes_of journal) ≡ true

-- what holds of an earlier list or of the new item
more-or : {X : Type 0} (chosen : EventKind → Option X) (test : X → Bool) (journal : Journal) (event : Event) → list_any test (each_in chosen (with_event journal event)) ≡ true → (list_any test (each_in chosen journal) ≡ true) ⊎ (option_map_or test (chosen event.kind) false ≡ true)
more-or chosen test journal event e =
    by_old (list_any test (each_in chosen journal)) refl
    (ap (λ b. list_any test (each_in chosen journal) || b) (sym (one-any test (chosen event.kind)))
    ∙ (sym (list_any-append test (each_in chosen journal) (option_to_list (chosen event.kind)))
    ∙ (ap (list_any test) (sym (gathers-on chosen journal event)) ∙ e)))
  where
    by_old : (old : Bool) → list_any test (each_in chosen journal) ≡ old → (list_any test (each_in chosen journal) || option_map_or test (chosen event.kind) false) ≡ true → (list_any test (each_in chosen journal) ≡ true) ⊎ (option_map_or test (chosen event.kind) false ≡ true)
    by_old true is h = inl is
    by_old false is h = inr (ap (λ b. b || option_map_or test (chosen event.kind) false) (sym is) ∙ h)

pub more-still : {X : Type 0} (chosen : EventKind → Option X) (test : X → Bool) (journal : Journal) (event : Event) → list_any test (each_in chosen journal) ≡ true → list_any test (each_in chosen (with_event journal event)) ≡ true
more-still chosen test journal event e =
    ap (list_any test) (gathers-on chosen journal event)
    ∙ any-after test (each_in chosen journal) (option_to_list (chosen event.kind)) e

fix-known : (journal : Journal) (now : ℕ) (caller : Caller) (kind : EventKind) (class moment : ℕ) → IsLawful journal → broken_rule (own_at journal now caller) (request_of kind) ≡ None → option_map_or (fixes_price class moment) (price_fix_in kind) false ≡ true → list_any (prices_class class moment) (each_in sheet_in journal) ≡ true
fix-known journal now caller (EventKind.FixPrice form) class moment lawful clear fixes =
    let both = and_parts (form.class == class) (form.moment == moment) fixes in
    sym (sheets-seen class moment journal lawful)
    ∙ (sym (corrected-seen (each_in price_fix_in journal) class moment (table_of journal).sheets)
    ∙ (ap (λ c. has_price (own_at journal now caller) c moment) (sym (eqb-true form.class class both.0))
    ∙ (ap (λ m. has_price (own_at journal now caller) form.class m) (sym (eqb-true form.moment moment both.1))
    ∙ (all-named (things_named (own_at journal now caller) (Request.FixPrice form)) (not_broken (own_at journal now caller) (Request.FixPrice form) clear Rule.NoSuch)).1.1.0)))
fix-known journal now caller _ class moment lawful clear fixes = absurd (true≢false (sym fixes))

sheet-known : (journal : Journal) (now : ℕ) (caller : Caller) (kind : EventKind) (class calendar : ℕ) → IsLawful journal → broken_rule (own_at journal now caller) (request_of kind) ≡ None → option_map_or (λ (form : SheetForm). lists_class form.prices class && form.calendar == calendar) (sheet_in kind) false ≡ true → list_any (is_of class calendar) (classes_of journal) ≡ true
sheet-known journal now caller (EventKind.Sheet form) class calendar lawful clear lists =
    let both = and_parts (lists_class form.prices class) (form.calendar == calendar) lists in
    ap (λ c. list_any (is_of class c) (classes_of journal)) (sym (eqb-true form.calendar calendar both.1))
    ∙ sheet-complete journal now caller form class lawful clear both.0
sheet-known journal now caller _ class calendar lawful clear lists = absurd (true≢false (sym lists))

known-more : (journal : Journal) (event : Event) → IsLawful journal → IsBrought journal event → PricesKnown journal → PricesKnown (with_event journal event)
known-more journal event lawful brought known = record {
  fixed = λ class moment e.
      more-still sheet_in (prices_class class moment) journal event
      (⊎_elim (known.fixed class moment)
      (fix-known journal event.moment brought.caller event.kind class moment lawful brought.clear)
      (more-or price_fix_in (fixes_price class moment) journal event e));
  listed = λ class calendar e.
      more-still class_in (is_of class calendar) journal event
      (⊎_elim (known.listed class calendar)
      (sheet-known journal event.moment brought.caller event.kind class calendar lawful brought.clear)
      (more-or sheet_in (λ (form : SheetForm). lists_class form.prices class && form.calendar == calendar) journal event e));
}

prices_known : (journal : Journal) → IsLawful journal → PricesKnown journal
prices_known journal lawful =
    lawful-keeps PricesKnown known-more
    (record { fixed = λ class moment e. absurd (true≢false (sym e)); listed = λ class calendar e. absurd (true≢false (sym e)) })
    journal lawful

-- ---- so a sheet's prices are new to the corrections before it

unfixed-sheet : (journal : Journal) (now : ℕ) (caller : Caller) (form : SheetForm) → IsLawful journal → broken_rule (own_at journal now caller) (Request.Sheet form) ≡ None → list_any (publishes form.calendar form.moment) (each_in sheet_in journal) ≡ false → list_any (fixes_sheet form) (each_in price_fix_in journal) ≡ false
unfixed-sheet journal now caller form lawful clear unpublished =
    is-false (list_any (fixes_sheet form) (each_in price_fix_in journal)) wrong
  where
    known : PricesKnown journal
    known = prices_known journal lawful

    wrong : list_any (fixes_sheet form) (each_in price_fix_in journal) ≡ true → ⊥
    wrong e =
        let fix = any-with (fixes_sheet form) (each_in price_fix_in journal) e in
        let names = and_parts (form.moment == fix.0.moment) (lists_class form.prices fix.0.class) fix.1 in
        let same = eqb-true form.moment fix.0.moment names.0 in
        let once = known.fixed fix.0.class fix.0.moment (fix.2 (fixes_price fix.0.class fix.0.moment) (ap (λ b. b && fix.0.moment == fix.0.moment) (eq-eqb fix.0.class fix.0.class refl) ∙ eq-eqb fix.0.moment fix.0.moment refl)) in
        let sheet = any-with (prices_class fix.0.class fix.0.moment) (each_in sheet_in journal) once in
        let shows = and_parts (sheet.0.moment == fix.0.moment) (lists_class sheet.0.prices fix.0.class) sheet.1 in
        let own = known.listed fix.0.class sheet.0.calendar (sheet.2 (λ (s : SheetForm). lists_class s.prices fix.0.class && s.calendar == sheet.0.calendar) (ap (λ b. b && sheet.0.calendar == sheet.0.calendar) shows.1 ∙ eq-eqb sheet.0.calendar sheet.0.calendar refl)) in
        let new = sheet-complete journal now caller form fix.0.class lawful clear names.1 in
        let calendar : sheet.0.calendar ≡ form.calendar = one-calendar fix.0.class sheet.0.calendar form.calendar (classes_of journal) (no_class_twice journal lawful fix.0.class) own new in
        let moment : sheet.0.moment ≡ form.moment = eqb-true sheet.0.moment fix.0.moment shows.0 ∙ sym same in
        true≢false
        (sym (sheet.2 (publishes form.calendar form.moment) (ap (λ b. b && sheet.0.moment == form.moment) (eq-eqb sheet.0.calendar form.calendar calendar) ∙ eq-eqb sheet.0.moment form.moment moment))
        ∙ unpublished)

unfixed-by : (journal : Journal) (event : Event) (kind : EventKind) → event.kind ≡ kind → IsLawful (with_event journal event) → IsLawful journal → IsBrought journal event → is_unfixed journal kind ≡ true
unfixed-by journal event (EventKind.Sheet form) is all lawful brought =
    ap not
    (unfixed-sheet journal event.moment brought.caller form lawful
    (subst (λ kind. broken_rule (own_at journal event.moment brought.caller) (request_of kind) ≡ None) is brought.clear)
    (at-most-before (publishes form.calendar form.moment) (each_in sheet_in journal) form
    (subst (λ forms. length (filter (publishes form.calendar form.moment) forms) ≤ 1)
    (gathers-on sheet_in journal event ∙ ap (λ kind. each_in sheet_in journal ++ option_to_list (sheet_in kind)) is)
    (no_sheet_twice (with_event journal event) all form.calendar form.moment))
    (ap (λ b. b && form.moment == form.moment) (eq-eqb form.calendar form.calendar refl) ∙ eq-eqb form.moment form.moment refl)))
unfixed-by journal event _ is all lawful brought = refl

pub prices_anew : (journal : Journal) (event : Event) → LawfulPricesAnew journal event
prices_anew journal event all =
    let last = last-brought journal event all in
    let unfixed = unfixed-by journal event event.kind refl all last.0 last.1 in
    record { unfixed = unfixed; table = corrected_table_goes_on journal event unfixed }
