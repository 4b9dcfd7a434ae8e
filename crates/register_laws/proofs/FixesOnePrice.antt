-- A correction of a price in a lawful journal is that of one sheet: a class has one sheet a moment, and sheets are numbered.
use Rattle.std.proofs.Common.{Bool, List, None, Some, [], ap, arith, cond, false, get_or, inl, inr, nat_lt, length, map, refl, subst, suc, sym, true, ℕ, ◌&&◌, ◌+◌, ◌<◌, ◌==◌, ◌||◌, ◌∙◌, ◌∷◌, ◌≡◌, ◌≢◌, ◌≤◌, ◌⊎◌}
use Rattle.std.proofs.lemmas.Bool.{and_parts, cases_lt, eq-eqb, eqb-true, true≢false}
use Rattle.std.specs.List.{list_any}
use Rattle.std.specs.Option.{option_map_or}
use Rattle.std.specs.Prelude.{AllPairs}
use Rattle.agent_events.specs.Events.{Event, request_of}
use Rattle.agent_events.specs.Fields.{prices, within}
use Rattle.agent_events.specs.declared.request.FixPriceForm.{FixPriceForm}
use Rattle.agent_events.specs.declared.request.Request.{Request}
use Rattle.forward_price.specs.PriceTables.{AreNumbered, Table, corrected_price, corrected_sheet, with_prices, with_sheets, with_correction}
use Rattle.forward_price.specs.Sheets.{lists_class}
use Rattle.forward_price.specs.Turns.{is_offered_at, must_list}
use Rattle.forward_price.specs.declared.price_sheet.Opening.{Opening}
use Rattle.forward_price.specs.declared.price_sheet.Sheet.{Sheet}
use Rattle.register_laws.proofs.NothingBefore.{all-named, last-brought}
use Rattle.register_laws.proofs.PricesAnew.{opens}
use Rattle.register_laws.proofs.RulesByName.{not_broken}
use Rattle.register_laws.proofs.TablesAreOrderly.{numbered, orderly_tables}
use Rattle.register_laws.proofs.TablesGoOn.{prices-kept}
use Rattle.register_laws.proofs.Tests.{any-with, is-false}
use Rattle.register_laws.proofs.ViewsGoOn.{turned}
use Rattle.register_laws.specs.Lawful.{IsBrought, own_at}
use Rattle.register_laws.specs.OneEventMore.{LawfulFixesOnePrice, corrected_table, with_price_fixed}
use Rattle.forward_price.specs.Orderly.{IsOrderly}
use Rattle.register_machine.specs.journal.Journals.{Journal, with_event}
use Rattle.register_machine.specs.journal.Lawful.{IsLawful}
use Rattle.register_machine.specs.pricing.CorrectedPrices.{price_as_corrected, sheet_as_corrected}
use Rattle.register_machine.specs.rules.InOrder.{Rule, broken_rule}
use Rattle.register_machine.specs.rules.NamedThings.{lists_at, things_named}
use Rattle.agent_events.specs.declared.event.EventKind.{EventKind}

-- ---- places

pub any-place : {X : Type 0} (test : X → Bool) (xs : List X) → list_any test xs ≡ true → (k : ℕ) × (k < length xs) × ((d : X) → test (get_or xs k d) ≡ true)
any-place test [] e = absurd (true≢false (sym e))
any-place {X = X} test (x ∷ xs) e = by_test (test x) refl e (any-place test xs)
  where
    by_test : (here : Bool) → test x ≡ here → (here || list_any test xs) ≡ true → (list_any test xs ≡ true → (k : ℕ) × (k < length xs) × ((d : X) → test (get_or xs k d) ≡ true)) → (k : ℕ) × (k < length (x ∷ xs)) × ((d : X) → test (get_or (x ∷ xs) k d) ≡ true)
    by_test true is h later = (0, omega arith, λ d. is)
    by_test false is h later = let found = later h in let within = found.1 in (suc found.0, omega (arith, within), λ d. found.2 d)

maps-alike : {X Y : Type 0} (f g : X → Y) (xs : List X) → ((k : ℕ) (d : X) → k < length xs → f (get_or xs k d) ≡ g (get_or xs k d)) → map f xs ≡ map g xs
maps-alike f g [] alike = refl
maps-alike f g (x ∷ xs) alike =
    ap (λ y. y ∷ map f xs) (alike 0 x (omega arith))
    ∙ ap (λ ys. g x ∷ ys) (maps-alike f g xs (λ k d within. alike (suc k) d (omega (arith, within))))

-- ---- one calendar a class, one sheet a moment

one-opening : (class one other : ℕ) (classes : List Opening) → AllPairs (λ a b. a.class ≢ b.class) classes → list_any (opens class one) classes ≡ true → list_any (opens class other) classes ≡ true → one ≡ other
one-opening class one other classes differ first second =
    by_place (cases_lt i.0 j.0)
  where
    i : (k : ℕ) × (k < length classes) × ((d : Opening) → opens class one (get_or classes k d) ≡ true)
    i = any-place (opens class one) classes first

    j : (k : ℕ) × (k < length classes) × ((d : Opening) → opens class other (get_or classes k d) ≡ true)
    j = any-place (opens class other) classes second

    d : Opening
    d = record { class = 0; calendar = 0; opened = 0 }

    at_i : (((get_or classes i.0 d).class == class) ≡ true) × (((get_or classes i.0 d).calendar == one) ≡ true)
    at_i = and_parts ((get_or classes i.0 d).class == class) ((get_or classes i.0 d).calendar == one) (i.2 d)

    at_j : (((get_or classes j.0 d).class == class) ≡ true) × (((get_or classes j.0 d).calendar == other) ≡ true)
    at_j = and_parts ((get_or classes j.0 d).class == class) ((get_or classes j.0 d).calendar == other) (j.2 d)

    same : (get_or classes i.0 d).class ≡ (get_or classes j.0 d).class
    same = eqb-true (get_or classes i.0 d).class class at_i.0 ∙ sym (eqb-true (get_or classes j.0 d).class class at_j.0)

    by_same : i.0 ≡ j.0 → one ≡ other
    by_same is =
        sym (eqb-true (get_or classes i.0 d).calendar one at_i.1)
        ∙ (ap (λ k. (get_or classes k d).calendar) is ∙ eqb-true (get_or classes j.0 d).calendar other at_j.1)

    by_later : (j.0 < i.0) ⊎ (i.0 ≤ j.0) → j.0 ≤ i.0 → one ≡ other
    by_later (inl less) back = absurd (differ j.0 i.0 d less i.1 (sym same))
    by_later (inr up) back = by_same (omega (arith, up, back))

    by_place : (i.0 < j.0) ⊎ (j.0 ≤ i.0) → one ≡ other
    by_place (inl less) = absurd (differ i.0 j.0 d less j.1 same)
    by_place (inr back) = by_later (cases_lt j.0 i.0) back

must-open : (classes : List Opening) (calendar : ℕ) (moment : ℕ) (class : ℕ) → must_list classes calendar moment class ≡ true → list_any (opens class calendar) classes ≡ true
must-open classes calendar moment class e =
    let found = any-with (λ (o : Opening). o.class == class && is_offered_at calendar moment o) classes e in
    let both = and_parts (found.0.class == class) (is_offered_at calendar moment found.0) found.1 in
    let of = and_parts (found.0.calendar == calendar) (nat_lt found.0.opened moment) both.1 in
    found.2 (opens class calendar) (ap (λ b. b && found.0.calendar == calendar) both.0 ∙ of.0)

pub one-sheet : (t : Table) (class : ℕ) (i j : ℕ) (d : Sheet) → IsOrderly t → i < j → j < length t.sheets → lists_class (get_or t.sheets i d).prices class ≡ true → lists_class (get_or t.sheets j d).prices class ≡ true → (get_or t.sheets i d).moment ≡ (get_or t.sheets j d).moment → ⊥
one-sheet t class i j d orderly less within first second same =
    irreflexive
    (subst (λ moment. moment < (get_or t.sheets j d).moment) same
    (orderly.rises i j d less within calendars))
  where
    before : i < length t.sheets
    before = omega (arith, less, within)

    opened : (k : ℕ) → k < length t.sheets → lists_class (get_or t.sheets k d).prices class ≡ true → list_any (opens class (get_or t.sheets k d).calendar) t.classes ≡ true
    opened k short lists =
        must-open t.classes (get_or t.sheets k d).calendar (get_or t.sheets k d).moment class (sym (orderly.complete k d short class) ∙ lists)

    calendars : (get_or t.sheets i d).calendar ≡ (get_or t.sheets j d).calendar
    calendars =
        one-opening class (get_or t.sheets i d).calendar (get_or t.sheets j d).calendar t.classes orderly.classes_differ
        (opened i before first) (opened j within second)

    irreflexive : (get_or t.sheets j d).moment < (get_or t.sheets j d).moment → ⊥
    irreflexive h = omega (arith, h)

-- ---- the prices of a sheet

-- those of the moment, by the class
fixed-prices : (form : FixPriceForm) (moment : ℕ) (prices : List (ℕ × ℕ)) → form.moment ≡ moment → map (price_as_corrected (form ∷ []) moment) prices ≡ map (corrected_price form.class form.nav) prices
fixed-prices form moment [] is = refl
fixed-prices form moment (price ∷ prices) is =
    ap (λ p. p ∷ map (price_as_corrected (form ∷ []) moment) prices) (one price.0 price.1)
    ∙ ap (λ ps. corrected_price form.class form.nav price ∷ ps) (fixed-prices form moment prices is)
  where
    one : (class nav : ℕ) → price_as_corrected (form ∷ []) moment (class, nav) ≡ corrected_price form.class form.nav (class, nav)
    one class nav =
        ap (λ b. price-with class (option_map_or (λ (f : FixPriceForm). f.nav) (cond (form.class == class && b) (Some form) None) nav)) (eq-eqb form.moment moment is)
        ∙ by_class (form.class == class) refl
      where
        price-with : ℕ → ℕ → ℕ × ℕ
        price-with c n = (c, n)

        by_class : (b : Bool) → (form.class == class) ≡ b → price-with class (option_map_or (λ (f : FixPriceForm). f.nav) (cond (b && true) (Some form) None) nav) ≡ corrected_price form.class form.nav (class, nav)
        by_class true e =
            ap (λ is_own. cond is_own (price-with class form.nav) (price-with class nav)) (sym (eq-eqb class form.class (sym (eqb-true form.class class e))))
        by_class false e =
            ap (λ is_own. cond is_own (price-with class form.nav) (price-with class nav)) (sym (turned form.class class e))

-- ---- one sheet

-- the sheet of this number has its corrected price, and every other is left as it is
sheet-fixed : (t : Table) (form : FixPriceForm) (number : ℕ) → IsOrderly t → AreNumbered t.sheets → list_any (λ sheet. sheet.number == number && lists_at form.class form.moment sheet) t.sheets ≡ true → (k : ℕ) (d : Sheet) → k < length t.sheets → sheet_as_corrected (form ∷ []) (get_or t.sheets k d) ≡ corrected_sheet form.class number form.nav (get_or t.sheets k d)
sheet-fixed t form number orderly numbers listed k d short =
    by_number ((get_or t.sheets k d).number == number) refl
  where
    place : (place : ℕ) × (place < length t.sheets) × ((e : Sheet) → ((get_or t.sheets place e).number == number && lists_at form.class form.moment (get_or t.sheets place e)) ≡ true)
    place = any-place (λ sheet. sheet.number == number && lists_at form.class form.moment sheet) t.sheets listed

    own : (((get_or t.sheets place.0 d).number == number) ≡ true) × (lists_at form.class form.moment (get_or t.sheets place.0 d) ≡ true)
    own = and_parts ((get_or t.sheets place.0 d).number == number) (lists_at form.class form.moment (get_or t.sheets place.0 d)) (place.2 d)

    shows : (((get_or t.sheets place.0 d).moment == form.moment) ≡ true) × (lists_class (get_or t.sheets place.0 d).prices form.class ≡ true)
    shows = and_parts ((get_or t.sheets place.0 d).moment == form.moment) (lists_class (get_or t.sheets place.0 d).prices form.class) own.1

    at_moment : (get_or t.sheets place.0 d).moment ≡ form.moment
    at_moment = eqb-true (get_or t.sheets place.0 d).moment form.moment shows.0

    its_number : place.0 + 1 ≡ number
    its_number = sym (numbers.each place.0 d place.1) ∙ eqb-true (get_or t.sheets place.0 d).number number own.0

    this_number : (get_or t.sheets k d).number ≡ k + 1
    this_number = numbers.each k d short

    apart : ((get_or t.sheets k d).number == number) ≡ false → k ≡ place.0 → ⊥
    apart other same =
        true≢false
        (sym (eq-eqb (get_or t.sheets k d).number number (this_number ∙ (ap (λ n. n + 1) same ∙ its_number))) ∙ other)

    twice : ((get_or t.sheets k d).number == number) ≡ false → ((get_or t.sheets k d).moment == form.moment && lists_class (get_or t.sheets k d).prices form.class) ≡ true → ⊥
    twice other e = by_side (cases_lt k place.0)
      where
        parts : (((get_or t.sheets k d).moment == form.moment) ≡ true) × (lists_class (get_or t.sheets k d).prices form.class ≡ true)
        parts = and_parts ((get_or t.sheets k d).moment == form.moment) (lists_class (get_or t.sheets k d).prices form.class) e

        moments : (get_or t.sheets k d).moment ≡ (get_or t.sheets place.0 d).moment
        moments = eqb-true (get_or t.sheets k d).moment form.moment parts.0 ∙ sym at_moment

        by_back : (place.0 < k) ⊎ (k ≤ place.0) → place.0 ≤ k → ⊥
        by_back (inl less) up = one-sheet t form.class place.0 k d orderly less short shows.1 parts.1 (sym moments)
        by_back (inr down) up = apart other (omega (arith, up, down))

        by_side : (k < place.0) ⊎ (place.0 ≤ k) → ⊥
        by_side (inl less) = one-sheet t form.class k place.0 d orderly less place.1 parts.1 shows.1 moments
        by_side (inr up) = by_back (cases_lt place.0 k) up

    by_number : (is : Bool) → ((get_or t.sheets k d).number == number) ≡ is → sheet_as_corrected (form ∷ []) (get_or t.sheets k d) ≡ cond is (with_prices (get_or t.sheets k d) (map (corrected_price form.class form.nav) (get_or t.sheets k d).prices)) (get_or t.sheets k d)
    by_number true e =
        let numbers_are : k + 1 ≡ place.0 + 1 = sym this_number ∙ (eqb-true (get_or t.sheets k d).number number e ∙ sym its_number) in
        let same : place.0 ≡ k = omega (arith, numbers_are) in
        ap (with_prices (get_or t.sheets k d))
        (fixed-prices form (get_or t.sheets k d).moment (get_or t.sheets k d).prices (sym at_moment ∙ ap (λ n. (get_or t.sheets n d).moment) same))
    by_number false e =
        ap (with_prices (get_or t.sheets k d))
        (prices-kept (form ∷ []) (get_or t.sheets k d).moment (get_or t.sheets k d).prices
        (ap (λ b. b || false)
        (is-false ((get_or t.sheets k d).moment == form.moment && lists_class (get_or t.sheets k d).prices form.class) (twice e))))

-- a correction of a price is brought for a sheet that lists its class at its moment, and this has a number
pub has-sheet : (journal : Journal) (event : Event) → IsLawful (with_event journal event) → (form : FixPriceForm) → event.kind ≡ EventKind.FixPrice form → (number : ℕ) × (list_any (λ sheet. sheet.number == number && lists_at form.class form.moment sheet) (corrected_table journal).sheets ≡ true)
has-sheet journal event all form is = (
  sheet.0.number,
  sheet.2 (λ s. s.number == sheet.0.number && lists_at form.class form.moment s)
      (ap (λ b. b && lists_at form.class form.moment sheet.0) (eq-eqb sheet.0.number sheet.0.number refl) ∙ sheet.1),
)
  where
    brought : IsBrought journal event
    brought = (last-brought journal event all).1

    priced : list_any (lists_at form.class form.moment) (corrected_table journal).sheets ≡ true
    priced =
        (all-named (things_named (own_at journal event.moment brought.caller) (Request.FixPrice form))
        (not_broken (own_at journal event.moment brought.caller) (Request.FixPrice form)
        (subst (λ kind. broken_rule (own_at journal event.moment brought.caller) (request_of kind) ≡ None) is brought.clear) Rule.NoSuch)).1.1.0

    sheet : (sheet : Sheet) × (lists_at form.class form.moment sheet ≡ true) × ((other : Sheet → Bool) → other sheet ≡ true → list_any other (corrected_table journal).sheets ≡ true)
    sheet = any-with (lists_at form.class form.moment) (corrected_table journal).sheets priced

-- it fixes the price of that sheet alone
pub fixes-it-alone : (journal : Journal) (form : FixPriceForm) (number : ℕ) → IsLawful journal → list_any (λ sheet. sheet.number == number && lists_at form.class form.moment sheet) (corrected_table journal).sheets ≡ true → with_price_fixed form (corrected_table journal) ≡ with_correction (corrected_table journal) form.class number form.nav
fixes-it-alone journal form number lawful listed =
    ap (with_sheets (corrected_table journal))
    (maps-alike (sheet_as_corrected (form ∷ [])) (corrected_sheet form.class number form.nav) (corrected_table journal).sheets
    (sheet-fixed (corrected_table journal) form number (orderly_tables journal lawful).corrected (numbered journal lawful).corrected listed))

pub fixes_one_price : (journal : Journal) (event : Event) → LawfulFixesOnePrice journal event
fixes_one_price journal event all form is =
    let sheet = has-sheet journal event all form is in (
      sheet.0,
      record { listed = sheet.1; table = fixes-it-alone journal form sheet.0 (last-brought journal event all).0 sheet.1 },
    )
