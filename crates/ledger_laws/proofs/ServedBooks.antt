-- The facts that serve the books of journals.
use Rattle.std.proofs.Common.{List, None, Option, Some, ap, append-nil, arith, count_by, find, is_some, length, option_map, option_to_list, refl, subst, sym, true, true≢false, unwrap_or, ℕ, ◌++◌, ◌==◌, ◌∙◌, ◌≡◌, ◌≤◌}
use Rattle.std.proofs.lemmas.List.{length-map}
use Rattle.std.specs.Option.{option_map_or, option_or}
use Rattle.agent_events.specs.Events.{Event}
use Rattle.agent_events.specs.declared.event.EventKind.{EventKind}
use Rattle.agent_events.specs.declared.request.AccountForm.{AccountForm}
use Rattle.agent_events.specs.declared.request.ClassForm.{ClassForm}
use Rattle.agent_events.specs.declared.request.DividendForm.{DividendForm}
use Rattle.agent_events.specs.declared.request.FixPriceForm.{FixPriceForm}
use Rattle.agent_events.specs.declared.request.FixRateForm.{FixRateForm}
use Rattle.agent_events.specs.declared.request.SheetForm.{SheetForm}
use Rattle.agent_events.specs.declared.rows.AccountRow.{AccountRow}
use Rattle.agent_events.specs.declared.rows.RateRow.{RateRow}
use Rattle.register_laws.specs.EventReplays.{is_correction}
use Rattle.forward_price.specs.PriceTables.{Table, corrected_sheet}
use Rattle.household_fold.specs.Facts.{Known, rate_numbered}
use Rattle.reference_tables.proofs.EventTables.{tables_go_on}
use Rattle.reference_tables.proofs.ServedFacts.{tables-behind}
use Rattle.reference_tables.specs.Tables.{IsInRange, Tables, row_of_account, row_of_fix, tables_after, with_fixed_rate}
use Rattle.reference_tables.specs.TablesOfJournals.{AreTablesOf, known_of, known_with_patch, known_with_rates, patch_by}
use Rattle.ledger_laws.proofs.SoundBooks.{books-alike, have-terms}
use Rattle.ledger_laws.specs.SoundBooks.{TablesAgree}
use Rattle.ledger_laws.proofs.CorrectedParts.{opens-none}
use Rattle.ledger_laws.specs.BookFacts.{ServeLastSheet}
use Rattle.ledger_laws.specs.TableFacts.{AreFactsBehind, FactsBehindServe, HasFewRows, IsOnTrial, NewSheetServed, OrderCorrectionServed, PriceCorrectionServed, RateCorrectionServed, IsLastSheet}
use Rattle.register_laws.proofs.KeepsLimits.{keeps_its_limits}
use Rattle.register_laws.proofs.OneEventMore.{gathers-on}
use Rattle.register_laws.proofs.OrderlyBooks.{sheets_are_numbered}
use Rattle.register_laws.specs.CorrectionReach.{order_changed}
use Rattle.register_laws.specs.Lawful.{book_behind}
use Rattle.register_laws.specs.OneEventMore.{corrected_table_by, FixesOnePrice}
use Rattle.register_machine.specs.journal.Choices.{last_of}
use Rattle.register_machine.specs.journal.Journals.{Journal, with_event}
use Rattle.register_machine.specs.journal.Kinds.{account_in, account_numbered, accounts_of, class_in, classes_of}
use Rattle.register_machine.specs.journal.Lawful.{IsLawful}
use Rattle.register_machine.specs.pricing.CorrectedBook.{Book}
use Rattle.register_machine.specs.pricing.DividendRates.{declares, fixes_rate, rates_of}
use Rattle.ledger_laws.proofs.ReplaysAsPart.{sheets_give_facts}

-- ---- facts of any journal

households-same : (found : Option AccountForm) → option_map (λ (row : AccountRow). row.household) (option_map row_of_account found) ≡ option_map (λ (form : AccountForm). form.household) found
households-same None = refl
households-same (Some form) = refl

row-rate : (found : Option RateRow) → option_map_or (λ (row : RateRow). row.rate) found 0 ≡ unwrap_or (option_map (λ (row : RateRow). row.rate) found) 0
row-rate None = refl
row-rate (Some row) = refl

given-rate : (fix : Option FixRateForm) (own : Option DividendForm) → unwrap_or (option_or (option_map (λ (form : FixRateForm). form.rate) fix) (option_map (λ (form : DividendForm). form.rate) own)) 0 ≡ option_map_or (λ (form : FixRateForm). form.rate) fix (option_map_or (λ (form : DividendForm). form.rate) own 0)
given-rate None None = refl
given-rate None (Some form) = refl
given-rate (Some form) own = refl

tables-agree : (known : Known) (journal : Journal) → AreFactsBehind known journal → TablesAgree known (book_behind journal)
tables-agree known journal are = record {
  sheets = are.sheets;
  terms = are.tables.terms;
  accounts = λ account.
      ap (option_map (λ (row : AccountRow). row.household)) (are.tables.accounts account)
      ∙ households-same (account_numbered (accounts_of journal) account);
  rates = λ class moment.
      row-rate (rate_numbered known.rates class moment)
      ∙ (ap (λ (o : Option ℕ). unwrap_or o 0) (are.tables.rates class moment)
      ∙ given-rate (last_of (fixes_rate class moment) (rates_of journal).fixed) (find (declares class moment) (rates_of journal).declared));
}

pub facts_behind_serve : (known : Known) (journal : Journal) → FactsBehindServe known journal
facts_behind_serve known journal are few =
    let book = book_behind journal in
    let agree = tables-agree known journal are in
    record {
      serve = record {
        facts = sheets_give_facts known book (books-alike known book agree) agree.sheets (sheets_are_numbered journal);
        terms = have-terms known book agree;
        tables = record {
          terms_rise = are.tables.stand.terms;
          accounts_rise = are.tables.stand.accounts;
          rates_rise = are.tables.stand.rates;
          rates_within = are.tables.stand.within;
          few_terms = (let rows = are.tables.few_terms in let most = few.classes in omega (arith, rows, most));
          few_accounts = λ household. (let rows = are.tables.few_accounts household in let most = few.accounts household in omega (arith, rows, most));
        };
      };
      last = are.last;
    }

pub few-of-lawful : (journal : Journal) → IsLawful journal → HasFewRows journal
few-of-lawful journal lawful =
    let limits = keeps_its_limits journal lawful in
    record { classes = limits.classes; accounts = limits.accounts }

-- ---- lawful journals

pub new_sheet_served : (journal : Journal) (tables : Tables) (event : Event) (form : SheetForm) (sheet : ℕ) → NewSheetServed journal tables event form sheet
new_sheet_served journal tables event form sheet lawful is are last =
    let later = with_event journal event in
    facts_behind_serve (known_of later tables sheet) later
    (record { tables = tables-behind journal tables event (EventKind.Sheet form) is tt are; sheets = refl; last = last })
    (few-of-lawful later lawful)

-- ---- corrections on trial

-- a correction brings no class and no account
no-class : (kind : EventKind) → is_correction kind ≡ true → class_in kind ≡ None
no-class (EventKind.Class form) corrects = absurd (true≢false (sym corrects))
no-class _ corrects = refl

few-on-trial : (journal : Journal) (event : Event) → IsOnTrial journal event → HasFewRows (with_event journal event)
few-on-trial journal event is =
    let few = few-of-lawful journal is.lawful in
    let classes = gathers-on class_in journal event ∙ (ap (λ (found : Option ClassForm). classes_of journal ++ option_to_list found) (no-class event.kind is.corrects) ∙ append-nil (classes_of journal)) in
    let accounts = gathers-on account_in journal event ∙ (ap (λ (found : Option AccountForm). accounts_of journal ++ option_to_list found) (opens-none event.kind is.corrects) ∙ append-nil (accounts_of journal)) in
    record {
      classes = subst (λ (forms : List ClassForm). length forms ≤ 1000) (sym classes) few.classes;
      accounts = λ household. subst (λ (forms : List AccountForm). count_by (λ (form : AccountForm). form.household == household) forms ≤ 64) (sym accounts) (few.accounts household);
    }

-- the table on trial
table-on-trial : (journal : Journal) (event : Event) (kind : EventKind) → IsOnTrial journal event → event.kind ≡ kind → (book_behind (with_event journal event)).table ≡ corrected_table_by (book_behind journal).table event.moment kind
table-on-trial journal event kind is by =
    ap (λ (book : Book). book.table) is.goes_on
    ∙ ap (corrected_table_by (book_behind journal).table event.moment) by

pub order-table : (table : Table) (moment : ℕ) (kind : EventKind) → is_some (order_changed kind) ≡ true → corrected_table_by table moment kind ≡ table
order-table table moment (EventKind.Order placed) changes = refl
order-table table moment (EventKind.Enter form) changes = refl
order-table table moment (EventKind.Replace form) changes = refl
order-table table moment (EventKind.Cancel form) changes = refl
order-table table moment (EventKind.Void form) changes = refl
order-table table moment _ changes = absurd (true≢false (sym changes))

order-tables : (journal : Journal) (tables : Tables) (kind : EventKind) → is_some (order_changed kind) ≡ true → AreTablesOf journal (tables_after tables kind) → AreTablesOf journal tables
order-tables journal tables (EventKind.Order placed) changes are = are
order-tables journal tables (EventKind.Enter form) changes are = are
order-tables journal tables (EventKind.Replace form) changes are = are
order-tables journal tables (EventKind.Cancel form) changes are = are
order-tables journal tables (EventKind.Void form) changes are = are
order-tables journal tables _ changes are = absurd (true≢false (sym changes))

order-range : (kind : EventKind) → is_some (order_changed kind) ≡ true → IsInRange kind
order-range (EventKind.Order placed) changes = tt
order-range (EventKind.Enter form) changes = tt
order-range (EventKind.Replace form) changes = tt
order-range (EventKind.Cancel form) changes = tt
order-range (EventKind.Void form) changes = tt
order-range _ changes = absurd (true≢false (sym changes))

-- where the table on trial has the sheets of the facts
pub served-on-trial : (known : Known) (journal : Journal) (event : Event) → IsOnTrial journal event → AreFactsBehind known (with_event journal event) → ServeLastSheet known (book_behind (with_event journal event))
served-on-trial known journal event is are =
    facts_behind_serve known (with_event journal event) are (few-on-trial journal event is)

pub behind-order : (journal : Journal) (tables : Tables) (event : Event) (sheet : ℕ) → IsOnTrial journal event → is_some (order_changed event.kind) ≡ true → AreTablesOf journal tables → IsLastSheet journal sheet → AreFactsBehind (known_of journal tables sheet) (with_event journal event)
behind-order journal tables event sheet is changes are last =
    let table = table-on-trial journal event event.kind is refl ∙ order-table (book_behind journal).table event.moment event.kind changes in
    record {
      tables = order-tables (with_event journal event) tables event.kind changes (tables_go_on journal tables event are (order-range event.kind changes));
      sheets = sym (ap (λ (t : Table). t.sheets) table);
      last = last ∙ sym (ap (λ (t : Table). length t.sheets) table);
    }

pub order_correction_served : (journal : Journal) (tables : Tables) (event : Event) (sheet : ℕ) → OrderCorrectionServed journal tables event sheet
order_correction_served journal tables event sheet is changes are last =
    served-on-trial (known_of journal tables sheet) journal event is (behind-order journal tables event sheet is changes are last)

pub behind-rate : (journal : Journal) (tables : Tables) (event : Event) (form : FixRateForm) (sheet : ℕ) → IsOnTrial journal event → event.kind ≡ EventKind.FixRate form → form.rate ≤ 1000000000 → AreTablesOf journal tables → IsLastSheet journal sheet → AreFactsBehind (known_with_rates (known_of journal tables sheet) (with_fixed_rate tables.rates (row_of_fix form))) (with_event journal event)
behind-rate journal tables event form sheet is by most are last =
    let table = table-on-trial journal event (EventKind.FixRate form) is by in
    record {
      tables = tables-behind journal tables event (EventKind.FixRate form) by most are;
      sheets = sym (ap (λ (t : Table). t.sheets) table);
      last = last ∙ sym (ap (λ (t : Table). length t.sheets) table);
    }

pub rate_correction_served : (journal : Journal) (tables : Tables) (event : Event) (form : FixRateForm) (sheet : ℕ) → RateCorrectionServed journal tables event form sheet
rate_correction_served journal tables event form sheet is by most are last =
    served-on-trial (known_with_rates (known_of journal tables sheet) (with_fixed_rate tables.rates (row_of_fix form))) journal event is
    (behind-rate journal tables event form sheet is by most are last)

pub behind-price : (journal : Journal) (tables : Tables) (event : Event) (form : FixPriceForm) (number sheet : ℕ) → IsOnTrial journal event → event.kind ≡ EventKind.FixPrice form → FixesOnePrice journal form number → AreTablesOf journal tables → IsLastSheet journal sheet → AreFactsBehind (known_with_patch (known_of journal tables sheet) (patch_by form number)) (with_event journal event)
behind-price journal tables event form number sheet is by fixes are last =
    let table = table-on-trial journal event (EventKind.FixPrice form) is by ∙ fixes.table in
    record {
      tables = tables-behind journal tables event (EventKind.FixPrice form) by tt are;
      sheets = sym (ap (λ (t : Table). t.sheets) table);
      last = last ∙ sym (ap (λ (t : Table). length t.sheets) table ∙ length-map (book_behind journal).table.sheets (corrected_sheet form.class number form.nav));
    }

pub price_correction_served : (journal : Journal) (tables : Tables) (event : Event) (form : FixPriceForm) (number sheet : ℕ) → PriceCorrectionServed journal tables event form number sheet
price_correction_served journal tables event form number sheet is by fixes are last =
    served-on-trial (known_with_patch (known_of journal tables sheet) (patch_by form number)) journal event is
    (behind-price journal tables event form number sheet is by fixes are last)
