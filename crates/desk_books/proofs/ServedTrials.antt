-- The facts that serve a correction on trial.
use Rattle.std.proofs.Common.{Bool, List, None, Option, Some, [], ap, cond, false, find, length, option_map, refl, subst, sym, true, ℕ, ◌&&◌, ◌==◌, ◌∙◌, ◌∷◌, ◌≡◌, ◌||◌}
use Rattle.std.proofs.lemmas.Bool.{and_from, eq-eqb, true≢false}
use Rattle.std.specs.List.{list_any}
use Rattle.agent_events.specs.Events.{Event}
use Rattle.agent_events.specs.declared.event.EventKind.{EventKind}
use Rattle.agent_events.specs.declared.request.FixPriceForm.{FixPriceForm}
use Rattle.agent_events.specs.declared.request.FixRateForm.{FixRateForm}
use Rattle.agent_events.specs.declared.rows.RateRow.{RateRow}
use Rattle.desk_books.specs.Fresh.{IsOnTrial}
use Rattle.desk_books.specs.Served.{OrderIsServed, PriceIsServed, RateIsServed, ServeTrial, known_in}
use Rattle.desk_books.specs.BooksOfJournals.{AreBooksOf}
use Rattle.desk_books.specs.declared.books.DeskBooks.{DeskBooks}
use Rattle.register_laws.specs.EventReplays.{is_correction}
use Rattle.forward_price.specs.PriceTables.{Table}
use Rattle.forward_price.specs.declared.price_sheet.Patch.{Patch}
use Rattle.forward_price.specs.declared.price_sheet.Sheet.{Sheet}
use Rattle.household_fold.specs.Facts.{Known}
use Rattle.reference_tables.specs.Tables.{row_of_fix, with_fixed_rate}
use Rattle.reference_tables.specs.TablesOfJournals.{IsPricedOn, patch_by, patch_on}
use Rattle.ledger_laws.proofs.FixedPrices.{price_of_one_sheet}
use Rattle.ledger_laws.proofs.ServedBooks.{order-table, order_correction_served, price_correction_served, rate_correction_served}
use Rattle.ledger_laws.specs.TableFacts.{IsOnTrial as IsTrialOf}
use Rattle.register_laws.specs.CorrectionReach.{IsListedOn}
use Rattle.register_laws.specs.Lawful.{book_behind}
use Rattle.register_laws.specs.OneEventMore.{FixesOnePrice, corrected_table, corrected_table_by}
use Rattle.register_machine.specs.journal.Journals.{Journal, with_event}
use Rattle.register_machine.specs.pricing.CorrectedBook.{Book}
use Rattle.register_machine.specs.rules.NamedThings.{lists_at}

-- the facts of a table
abbrev known_by : DeskBooks → List RateRow → Option Patch → Table → Known
known_by books rates patch table = record {
  table = table;
  terms = books.tables.terms;
  accounts = books.tables.accounts;
  rates = rates;
  patch = patch;
  sheet = length table.sheets;
}

-- what is served with the prices of the journal is with those that are kept
with-kept : (books : DeskBooks) (event : Event) (rates : List RateRow) (patch : Option Patch) → AreBooksOf books.book.journal books → ServeTrial (known_by books rates patch (corrected_table books.book.journal)) books.book.journal event → ServeTrial (known_in books rates patch) books.book.journal event
with-kept books event rates patch are serve =
    subst (λ (table : Table). ServeTrial (known_by books rates patch table) books.book.journal event) (sym are.prices) serve

trial-of : (books : DeskBooks) (event : Event) → AreBooksOf books.book.journal books → is_correction event.kind ≡ true → IsOnTrial books.book.journal event → IsTrialOf books.book.journal event
trial-of books event are corrects is =
    record { lawful = are.lawful; corrects = corrects; goes_on = is.sound.goes_on }

-- ---- the sheets of the book on trial

table-behind : (journal : Journal) (event : Event) (kind : EventKind) → event.kind ≡ kind → IsOnTrial journal event → (book_behind (with_event journal event)).table ≡ corrected_table_by (corrected_table journal) event.moment kind
table-behind journal event kind at is =
    ap (λ (book : Book). book.table) is.sound.goes_on
    ∙ ap (corrected_table_by (corrected_table journal) event.moment) at

pub order_served : (books : DeskBooks) (event : Event) → OrderIsServed books event
order_served books event are corrects changes is =
    let journal = books.book.journal in
    with-kept books event books.tables.rates None are
    (record {
      serve = order_correction_served journal books.tables event (length (corrected_table journal).sheets) (trial-of books event are corrects is) changes are.tables refl;
      sheets = sym (ap (λ (table : Table). table.sheets) (table-behind journal event event.kind refl is ∙ order-table (corrected_table journal) event.moment event.kind changes));
    })

pub rate_served : (books : DeskBooks) (event : Event) (form : FixRateForm) → RateIsServed books event form
rate_served books event form are at most is =
    let journal = books.book.journal in
    with-kept books event (with_fixed_rate books.tables.rates (row_of_fix form)) None are
    (record {
      serve = rate_correction_served journal books.tables event form (length (corrected_table journal).sheets) (trial-of books event are (ap is_correction at) is) at most are.tables refl;
      sheets = sym (ap (λ (table : Table). table.sheets) (table-behind journal event (EventKind.FixRate form) at is));
    })

-- ---- a corrected price

-- the sheet that is found lists the class at the moment
pub listed_on : (class moment : ℕ) (sheets : List Sheet) (sheet : Sheet) → find (lists_at class moment) sheets ≡ Some sheet → list_any (λ (other : Sheet). other.number == sheet.number && lists_at class moment other) sheets ≡ true
listed_on class moment [] sheet is = absurd (none-some is)
  where
    none-some : None ≡ Some sheet → ⊥
    none-some e = cc
listed_on class moment (first ∷ sheets) sheet is =
    by (lists_at class moment first) refl is (λ later. listed_on class moment sheets sheet later)
  where
    same : Some first ≡ Some sheet → first ≡ sheet
    same e = cc

    or-left : (a b : Bool) → a ≡ true → (a || b) ≡ true
    or-left true b e = refl
    or-left false b e = absurd (true≢false (sym e))

    or-right : (a b : Bool) → b ≡ true → (a || b) ≡ true
    or-right true b e = refl
    or-right false b e = e

    by : (b : Bool) → lists_at class moment first ≡ b → cond b (Some first) (find (lists_at class moment) sheets) ≡ Some sheet → (find (lists_at class moment) sheets ≡ Some sheet → list_any (λ (other : Sheet). other.number == sheet.number && lists_at class moment other) sheets ≡ true) → list_any (λ (other : Sheet). other.number == sheet.number && lists_at class moment other) (first ∷ sheets) ≡ true
    by true lists here rest =
        or-left (first.number == sheet.number && lists_at class moment first) (list_any (λ (other : Sheet). other.number == sheet.number && lists_at class moment other) sheets)
        (and_from (first.number == sheet.number) (lists_at class moment first) (eq-eqb first.number sheet.number (ap (λ (s : Sheet). s.number) (same here))) lists)
    by false lists later rest =
        or-right (first.number == sheet.number && lists_at class moment first) (list_any (λ (other : Sheet). other.number == sheet.number && lists_at class moment other) sheets)
        (rest later)

pub price_listed : (books : DeskBooks) (form : FixPriceForm) (patch : Patch) → AreBooksOf books.book.journal books → patch_on books.prices.table.sheets form ≡ Some patch → IsListedOn (book_behind books.book.journal) form.class form.moment patch.sheet
price_listed books form patch are patches =
    by (find (lists_at form.class form.moment) sheets) refl (sym (ap (λ (table : Table). patch_on table.sheets form) are.prices) ∙ patches)
  where
    sheets : List Sheet
    sheets = (corrected_table books.book.journal).sheets

    by : (found : Option Sheet) → find (lists_at form.class form.moment) sheets ≡ found → option_map (λ (sheet : Sheet). patch_by form sheet.number) found ≡ Some patch → IsListedOn (book_behind books.book.journal) form.class form.moment patch.sheet
    by None is_found e = absurd (none-some e)
      where
        none-some : None ≡ Some patch → ⊥
        none-some e = cc
    by (Some sheet) is_found e =
        subst (λ (p : Patch). IsListedOn (book_behind books.book.journal) form.class form.moment p.sheet) (same e) (listed_on form.class form.moment sheets sheet is_found)
      where
        same : Some (patch_by form sheet.number) ≡ Some patch → patch_by form sheet.number ≡ patch
        same e = cc

price-by : (books : DeskBooks) (event : Event) (form : FixPriceForm) (number : ℕ) → AreBooksOf books.book.journal books → event.kind ≡ EventKind.FixPrice form → IsPricedOn books.book.journal form number → IsOnTrial books.book.journal event → ServeTrial (known_by books books.tables.rates (Some (patch_by form number)) (corrected_table books.book.journal)) books.book.journal event
price-by books event form number are at priced is =
    let journal = books.book.journal in
    let fixes : FixesOnePrice journal form number = price_of_one_sheet journal form number are.lawful priced in
    record {
      serve = price_correction_served journal books.tables event form number (length (corrected_table journal).sheets) (trial-of books event are (ap is_correction at) is) at fixes are.tables refl;
      sheets = sym (ap (λ (table : Table). table.sheets) (table-behind journal event (EventKind.FixPrice form) at is ∙ fixes.table));
    }

pub price_served : (books : DeskBooks) (event : Event) (form : FixPriceForm) (patch : Patch) → PriceIsServed books event form patch
price_served books event form patch are at patches is =
    with-kept books event books.tables.rates (Some patch) are
    (by (find (lists_at form.class form.moment) (corrected_table journal).sheets) refl (sym (ap (λ (table : Table). patch_on table.sheets form) are.prices) ∙ patches))
  where
    journal : Journal
    journal = books.book.journal

    by : (found : Option Sheet) → find (lists_at form.class form.moment) (corrected_table journal).sheets ≡ found → option_map (λ (sheet : Sheet). patch_by form sheet.number) found ≡ Some patch → ServeTrial (known_by books books.tables.rates (Some patch) (corrected_table journal)) journal event
    by None is_found e = absurd (none-some e)
      where
        none-some : None ≡ Some patch → ⊥
        none-some e = cc
    by (Some sheet) is_found e =
        subst (λ (p : Patch). ServeTrial (known_by books books.tables.rates (Some p) (corrected_table journal)) journal event) (same e)
        (price-by books event form sheet.number are at (listed_on form.class form.moment (corrected_table journal).sheets sheet is_found) is)
      where
        same : Some (patch_by form sheet.number) ≡ Some patch → patch_by form sheet.number ≡ patch
        same e = cc
