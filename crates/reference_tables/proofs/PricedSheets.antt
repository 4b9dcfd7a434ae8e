-- The sheet that a corrected price is on: a class has one sheet a moment, so its number is known by class and moment.
use Rattle.std.proofs.Common.{Bool, List, None, Option, Some, [], ap, arith, cond, find, get_or, inl, inr, is_some, length, option_map, refl, sym, true, false, ℕ, ◌&&◌, ◌<◌, ◌==◌, ◌||◌, ◌∙◌, ◌∷◌, ◌≡◌, ◌≤◌, ◌⊎◌}
use Rattle.std.proofs.lemmas.Bool.{and_from, and_parts, cases_lt, eq-eqb, eqb-true, true≢false}
use Rattle.std.specs.List.{list_any}
use Rattle.agent_events.specs.Events.{Event}
use Rattle.agent_events.specs.declared.request.FixPriceForm.{FixPriceForm}
use Rattle.forward_price.specs.Sheets.{lists_class}
use Rattle.forward_price.specs.declared.price_sheet.Sheet.{Sheet}
use Rattle.household_fold.specs.Facts.{no_sheet}
use Rattle.reference_tables.specs.TablesOfJournals.{HasPatch, IsPricedOn, patch_by}
use Rattle.register_laws.proofs.Choosing.{none_some}
use Rattle.register_laws.proofs.FixesOnePrice.{any-place, has-sheet, one-sheet}
use Rattle.register_laws.proofs.TablesAreOrderly.{orderly_tables}
use Rattle.register_laws.proofs.Tests.{any-with, find-any}
use Rattle.register_laws.specs.OneEventMore.{corrected_table}
use Rattle.register_machine.specs.journal.Journals.{Journal, with_event}
use Rattle.register_machine.specs.journal.Lawful.{IsLawful}
use Rattle.register_machine.specs.rules.NamedThings.{lists_at}
use Rattle.agent_events.specs.declared.event.EventKind.{EventKind}

-- the sheet in a place has the number, lists the class, and has the moment
record IsPriced (form : FixPriceForm) (number : ℕ) (sheet : Sheet) : Type 0 where
  its_number : sheet.number ≡ number
  lists : lists_class sheet.prices form.class ≡ true
  moment : sheet.moment ≡ form.moment

priced-by : (form : FixPriceForm) (n : ℕ) (sheet : Sheet) → (sheet.number == n && lists_at form.class form.moment sheet) ≡ true → IsPriced form n sheet
priced-by form n sheet e =
    let own = and_parts (sheet.number == n) (lists_at form.class form.moment sheet) e in
    let shows = and_parts (sheet.moment == form.moment) (lists_class sheet.prices form.class) own.1 in
    record {
      its_number = eqb-true sheet.number n own.0;
      lists = shows.1;
      moment = eqb-true sheet.moment form.moment shows.0;
    }

pub one-number : (journal : Journal) (form : FixPriceForm) (one other : ℕ) → IsLawful journal → IsPricedOn journal form one → IsPricedOn journal form other → one ≡ other
one-number journal form one other lawful first second = by_side (cases_lt i.0 j.0)
  where
    i : (k : ℕ) × (k < length (corrected_table journal).sheets) × ((d : Sheet) → ((get_or (corrected_table journal).sheets k d).number == one && lists_at form.class form.moment (get_or (corrected_table journal).sheets k d)) ≡ true)
    i = any-place (λ (sheet : Sheet). sheet.number == one && lists_at form.class form.moment sheet) (corrected_table journal).sheets first

    j : (k : ℕ) × (k < length (corrected_table journal).sheets) × ((d : Sheet) → ((get_or (corrected_table journal).sheets k d).number == other && lists_at form.class form.moment (get_or (corrected_table journal).sheets k d)) ≡ true)
    j = any-place (λ (sheet : Sheet). sheet.number == other && lists_at form.class form.moment sheet) (corrected_table journal).sheets second

    a : IsPriced form one (get_or (corrected_table journal).sheets i.0 no_sheet)
    a = priced-by form one (get_or (corrected_table journal).sheets i.0 no_sheet) (i.2 no_sheet)

    b : IsPriced form other (get_or (corrected_table journal).sheets j.0 no_sheet)
    b = priced-by form other (get_or (corrected_table journal).sheets j.0 no_sheet) (j.2 no_sheet)

    by_back : (j.0 < i.0) ⊎ (i.0 ≤ j.0) → j.0 ≤ i.0 → one ≡ other
    by_back (inl less) up =
        absurd (one-sheet (corrected_table journal) form.class j.0 i.0 no_sheet (orderly_tables journal lawful).corrected less i.1 b.lists a.lists (b.moment ∙ sym a.moment))
    by_back (inr down) up =
        let same : i.0 ≡ j.0 = omega (arith, up, down) in
        sym a.its_number ∙ (ap (λ k. (get_or (corrected_table journal).sheets k no_sheet).number) same ∙ b.its_number)

    by_side : (i.0 < j.0) ⊎ (j.0 ≤ i.0) → one ≡ other
    by_side (inl less) =
        absurd (one-sheet (corrected_table journal) form.class i.0 j.0 no_sheet (orderly_tables journal lawful).corrected less j.1 a.lists b.lists (a.moment ∙ sym b.moment))
    by_side (inr up) = by_back (cases_lt j.0 i.0) up

-- ---- the patch

-- what is found passes, and so it is among them
found-any : {X : Type 0} (q other : X → Bool) (xs : List X) (x : X) → find q xs ≡ Some x → ((y : X) → q y ≡ true → y ≡ x → other y ≡ true) → list_any other xs ≡ true
found-any q other [] x e passes = absurd (none_some e)
found-any {X} q other (y ∷ ys) x e passes = by_test (q y) refl e (λ found. found-any q other ys x found passes)
  where
    by_test : (b : Bool) → q y ≡ b → cond b (Some y) (find q ys) ≡ Some x → (find q ys ≡ Some x → list_any other ys ≡ true) → (other y || list_any other ys) ≡ true
    by_test true is found later =
        let same : y ≡ x = cc in
        ap (λ b. b || list_any other ys) (passes y is same)
    by_test false is found later = ap (λ b. other y || b) (later found) ∙ late (other y)
      where
        late : (b : Bool) → (b || true) ≡ true
        late true = refl
        late false = refl

-- a correction of a price is for a sheet that lists its class at its moment
pub is-listed : (journal : Journal) (event : Event) → IsLawful (with_event journal event) → (form : FixPriceForm) → event.kind ≡ EventKind.FixPrice form → list_any (lists_at form.class form.moment) (corrected_table journal).sheets ≡ true
is-listed journal event lawful form is =
    let sheet = has-sheet journal event lawful form is in
    let found = any-with (λ (s : Sheet). s.number == sheet.0 && lists_at form.class form.moment s) (corrected_table journal).sheets sheet.1 in
    found.2 (lists_at form.class form.moment) (and_parts (found.0.number == sheet.0) (lists_at form.class form.moment found.0) found.1).1

-- so it has its patch
pub listed-patch : (journal : Journal) (form : FixPriceForm) → list_any (lists_at form.class form.moment) (corrected_table journal).sheets ≡ true → (number : ℕ) × HasPatch journal form number
listed-patch journal form listed = by_found (find (lists_at form.class form.moment) (corrected_table journal).sheets) refl
  where
    by_found : (o : Option Sheet) → find (lists_at form.class form.moment) (corrected_table journal).sheets ≡ o → (number : ℕ) × HasPatch journal form number
    by_found None none =
        absurd (true≢false (sym listed ∙ (sym (find-any (lists_at form.class form.moment) (corrected_table journal).sheets) ∙ ap is_some none)))
    by_found (Some sheet) found = (
      sheet.number,
      record {
        patch = ap (option_map (λ (s : Sheet). patch_by form s.number)) found;
        priced = found-any (lists_at form.class form.moment) (λ s. s.number == sheet.number && lists_at form.class form.moment s) (corrected_table journal).sheets sheet found
            (λ y passes same. and_from (y.number == sheet.number) (lists_at form.class form.moment y) (eq-eqb y.number sheet.number (ap (λ (s : Sheet). s.number) same)) passes);
      },
    )
