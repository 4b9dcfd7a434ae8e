-- The tables of a journal are those of it with one event more, when the event has come into them.
use Rattle.std.proofs.Common.{Bool, List, None, Option, Some, [], ap, append-nil, arith, cond, count_by, find, length, length-append, option_map, nat_lt, false, option_to_list, refl, subst, sym, true, ℕ, ◌&&◌, ◌++◌, ◌==◌, ◌∙◌, ◌∷◌, ◌≡◌, ◌≤◌}
use Rattle.std.proofs.lemmas.Bool.{and_parts}
use Rattle.std.proofs.lemmas.List.Folds.{find-append, list_all-append}
use Rattle.std.proofs.lemmas.List.Sums.{sum_by-append}
use Rattle.std.specs.List.{list_all}
use Rattle.std.specs.Option.{option_or}
use Rattle.agent_events.specs.Events.{Event}
use Rattle.agent_events.specs.declared.event.EventKind.{EventKind}
use Rattle.agent_events.specs.declared.request.AccountForm.{AccountForm}
use Rattle.agent_events.specs.declared.request.ClassForm.{ClassForm}
use Rattle.agent_events.specs.declared.request.DividendForm.{DividendForm}
use Rattle.agent_events.specs.declared.request.FixRateForm.{FixRateForm}
use Rattle.agent_events.specs.declared.rows.AccountRow.{AccountRow}
use Rattle.agent_events.specs.declared.rows.RateRow.{RateRow}
use Rattle.class_terms.specs.declared.form.TermsForm.{TermsForm}
use Rattle.household_fold.specs.Facts.{class_in_book, rate_numbered, row_numbered, terms_numbered}
use Rattle.reference_tables.proofs.RowsFound.{new-count, new-length, numbered-new, rates-new, rates-put}
use Rattle.reference_tables.proofs.StandingTables.{stand-after}
use Rattle.reference_tables.specs.Tables.{Tables, accounts_after, brings_good_loads, has_account_number, has_class_number, no_tables, rates_after, row_of_account, row_of_dividend, row_of_fix, terms_after}
use Rattle.reference_tables.specs.TablesOfJournals.{AreTablesOf, LawfulBringsGoodLoads, TablesGoOn, rate_given}
use Rattle.register_laws.proofs.FitsRows.{classes_have_good_loads}
use Rattle.register_laws.proofs.OneEventMore.{gathers-on, rates_go_on}
use Rattle.register_laws.proofs.Tests.{last-of-more}
use Rattle.register_laws.specs.LawfulLimits.{has_good_loads}
use Rattle.register_laws.specs.OneEventMore.{rates_after as book_rates_after}
use Rattle.register_machine.specs.journal.Choices.{last_of}
use Rattle.register_machine.specs.journal.Journals.{Journal, with_event}
use Rattle.register_machine.specs.journal.Kinds.{account_in, account_numbered, accounts_of, class_in, class_numbered, classes_of}
use Rattle.register_machine.specs.pricing.DividendRates.{Rates, declares, fixes_rate, rates_of}
use Rattle.register_machine.specs.rules.Terms.{terms_of}

-- ---- what is made of what is found

map-or : {X Y : Type 0} (f : X → Y) (a b : Option X) → option_map f (option_or a b) ≡ option_or (option_map f a) (option_map f b)
map-or f None b = refl
map-or f (Some x) b = refl

map-if : {X Y : Type 0} (f : X → Y) (b : Bool) (x : X) → option_map f (cond b (Some x) None) ≡ cond b (Some (f x)) None
map-if f true x = refl
map-if f false x = refl

or-or : {X : Type 0} (a b c : Option X) → option_or (option_or a b) c ≡ option_or a (option_or b c)
or-or None b c = refl
or-or (Some x) b c = refl

-- ---- classes

terms-after : (terms : List TermsForm) (forms : List ClassForm) (kind : EventKind) (class : ℕ) → option_map class_in_book (terms_numbered terms class) ≡ class_numbered forms class → option_map class_in_book (terms_numbered (terms_after terms kind) class) ≡ class_numbered (forms ++ option_to_list (class_in kind)) class
terms-after terms forms (EventKind.Class form) class same =
    ap (option_map class_in_book) (numbered-new (λ (x : TermsForm). x.class) (terms_of form) terms class)
    ∙ (map-or class_in_book (terms_numbered terms class) (cond (form.class == class) (Some (terms_of form)) None)
    ∙ (ap (λ o. option_or o (option_map class_in_book (cond (form.class == class) (Some (terms_of form)) None))) same
    ∙ (ap (option_or (class_numbered forms class)) (map-if class_in_book (form.class == class) (terms_of form))
    ∙ sym (find-append (λ (c : ClassForm). c.class == class) forms (form ∷ [])))))
terms-after terms forms _ class same = same ∙ ap (λ all. class_numbered all class) (sym (append-nil forms))

terms-few : (terms : List TermsForm) (forms : List ClassForm) (kind : EventKind) → length terms ≤ length forms → length (terms_after terms kind) ≤ length (forms ++ option_to_list (class_in kind))
terms-few terms forms (EventKind.Class form) few =
    let more = new-length (λ (x : TermsForm). nat_lt x.class form.class) (has_class_number form.class) (terms_of form) terms in
    let longer = length-append forms (form ∷ []) in
    omega (arith, more, longer, few)
terms-few terms forms _ few = subst (λ all. length terms ≤ length all) (sym (append-nil forms)) few

-- ---- accounts

accounts-after : (accounts : List AccountRow) (forms : List AccountForm) (kind : EventKind) (account : ℕ) → row_numbered accounts account ≡ option_map row_of_account (account_numbered forms account) → row_numbered (accounts_after accounts kind) account ≡ option_map row_of_account (account_numbered (forms ++ option_to_list (account_in kind)) account)
accounts-after accounts forms (EventKind.Account form) account same =
    numbered-new (λ (x : AccountRow). x.account) (row_of_account form) accounts account
    ∙ (ap (λ o. option_or o (cond (form.account == account) (Some (row_of_account form)) None)) same
    ∙ (ap (option_or (option_map row_of_account (account_numbered forms account))) (sym (map-if row_of_account (form.account == account) form))
    ∙ (sym (map-or row_of_account (account_numbered forms account) (cond (form.account == account) (Some form) None))
    ∙ ap (option_map row_of_account) (sym (find-append (λ (a : AccountForm). a.account == account) forms (form ∷ []))))))
accounts-after accounts forms _ account same =
    same ∙ ap (λ all. option_map row_of_account (account_numbered all account)) (sym (append-nil forms))

accounts-few : (accounts : List AccountRow) (forms : List AccountForm) (kind : EventKind) (household : ℕ) → count_by (λ row. row.household == household) accounts ≤ count_by (λ form. form.household == household) forms → count_by (λ row. row.household == household) (accounts_after accounts kind) ≤ count_by (λ form. form.household == household) (forms ++ option_to_list (account_in kind))
accounts-few accounts forms (EventKind.Account form) household few =
    let more = new-count (λ (row : AccountRow). row.household == household) (λ x. nat_lt x.account form.account) (has_account_number form.account) (row_of_account form) accounts in
    let longer = sum_by-append (λ (a : AccountForm). cond (a.household == household) 1 0) forms (form ∷ []) in
    omega (arith, more, longer, few)
accounts-few accounts forms _ household few =
    subst (λ all. count_by (λ row. row.household == household) accounts ≤ count_by (λ form. form.household == household) all) (sym (append-nil forms)) few

-- ---- rates

given-declared : (rates : Rates) (form : DividendForm) (class moment : ℕ) → rate_given (record { declared = rates.declared ++ form ∷ []; fixed = rates.fixed }) class moment ≡ option_or (rate_given rates class moment) (cond (declares class moment form) (Some form.rate) None)
given-declared rates form class moment =
    let fix = option_map (λ (f : FixRateForm). f.rate) (last_of (fixes_rate class moment) rates.fixed) in
    let own = option_map (λ (d : DividendForm). d.rate) (find (declares class moment) rates.declared) in
    ap (λ o. option_or fix (option_map (λ d. d.rate) o)) (find-append (declares class moment) rates.declared (form ∷ []))
    ∙ (ap (option_or fix) (map-or (λ d. d.rate) (find (declares class moment) rates.declared) (cond (declares class moment form) (Some form) None))
    ∙ (ap (λ o. option_or fix (option_or own o)) (map-if (λ d. d.rate) (declares class moment form) form)
    ∙ sym (or-or fix own (cond (declares class moment form) (Some form.rate) None))))

fixed-found : (row : RateRow) (form : FixRateForm) (b : Bool) (found : Option RateRow) (fixed : Option FixRateForm) (own : Option ℕ) → row.rate ≡ form.rate → option_map (λ row. row.rate) found ≡ option_or (option_map (λ f. f.rate) fixed) own → option_map (λ row. row.rate) (cond b (Some row) found) ≡ option_or (option_map (λ f. f.rate) (cond b (Some form) fixed)) own
fixed-found row form true found fixed own rate same = ap Some rate
fixed-found row form false found fixed own rate same = same

rates-after : (rows : List RateRow) (rates : Rates) (kind : EventKind) (class moment : ℕ) → option_map (λ row. row.rate) (rate_numbered rows class moment) ≡ rate_given rates class moment → option_map (λ row. row.rate) (rate_numbered (rates_after rows kind) class moment) ≡ rate_given (book_rates_after rates kind) class moment
rates-after rows rates (EventKind.Dividend form) class moment same =
    ap (option_map (λ row. row.rate)) (rates-new (row_of_dividend form) rows class moment)
    ∙ (map-or (λ row. row.rate) (rate_numbered rows class moment) (cond (declares class moment form) (Some (row_of_dividend form)) None)
    ∙ (ap (λ o. option_or o (option_map (λ row. row.rate) (cond (declares class moment form) (Some (row_of_dividend form)) None))) same
    ∙ (ap (option_or (rate_given rates class moment)) (map-if (λ row. row.rate) (declares class moment form) (row_of_dividend form))
    ∙ sym (given-declared rates form class moment))))
rates-after rows rates (EventKind.FixRate form) class moment same =
    let own = option_map (λ (d : DividendForm). d.rate) (find (declares class moment) rates.declared) in
    ap (option_map (λ row. row.rate)) (rates-put (row_of_fix form) rows class moment)
    ∙ (fixed-found (row_of_fix form) form (fixes_rate class moment form) (rate_numbered rows class moment) (last_of (fixes_rate class moment) rates.fixed) own refl same
    ∙ ap (λ o. option_or (option_map (λ f. f.rate) o) own) (sym (last-of-more (fixes_rate class moment) rates.fixed form)))
rates-after rows rates _ class moment same = same

-- ---- all of them

module _ (journal : Journal) (tables : Tables) (event : Event) (are : AreTablesOf journal tables) where
  pub terms-on : (class : ℕ) → option_map class_in_book (terms_numbered (terms_after tables.terms event.kind) class) ≡ class_numbered (classes_of (with_event journal event)) class
  terms-on class =
      terms-after tables.terms (classes_of journal) event.kind class (are.terms class)
      ∙ ap (λ all. class_numbered all class) (sym (gathers-on class_in journal event))

  pub accounts-on : (account : ℕ) → row_numbered (accounts_after tables.accounts event.kind) account ≡ option_map row_of_account (account_numbered (accounts_of (with_event journal event)) account)
  accounts-on account =
      accounts-after tables.accounts (accounts_of journal) event.kind account (are.accounts account)
      ∙ ap (λ all. option_map row_of_account (account_numbered all account)) (sym (gathers-on account_in journal event))

  pub rates-on : (class moment : ℕ) → option_map (λ row. row.rate) (rate_numbered (rates_after tables.rates event.kind) class moment) ≡ rate_given (rates_of (with_event journal event)) class moment
  rates-on class moment =
      rates-after tables.rates (rates_of journal) event.kind class moment (are.rates class moment)
      ∙ ap (λ all. rate_given all class moment) (sym (rates_go_on journal event))

  pub few-terms-on : length (terms_after tables.terms event.kind) ≤ length (classes_of (with_event journal event))
  few-terms-on =
      subst (λ all. length (terms_after tables.terms event.kind) ≤ length all) (sym (gathers-on class_in journal event))
      (terms-few tables.terms (classes_of journal) event.kind are.few_terms)

  pub few-accounts-on : (household : ℕ) → count_by (λ row. row.household == household) (accounts_after tables.accounts event.kind) ≤ count_by (λ form. form.household == household) (accounts_of (with_event journal event))
  few-accounts-on household =
      subst (λ all. count_by (λ row. row.household == household) (accounts_after tables.accounts event.kind) ≤ count_by (λ form. form.household == household) all)
      (sym (gathers-on account_in journal event))
      (accounts-few tables.accounts (accounts_of journal) event.kind household (are.few_accounts household))

pub tables_go_on : (journal : Journal) (tables : Tables) (event : Event) → TablesGoOn journal tables event
tables_go_on journal tables event are range = record {
  stand = stand-after tables event.kind range are.stand;
  terms = terms-on journal tables event are;
  accounts = accounts-on journal tables event are;
  rates = rates-on journal tables event are;
  few_terms = few-terms-on journal tables event are;
  few_accounts = few-accounts-on journal tables event are;
}

-- a class that a lawful journal brings has good loads
pub brings_loads : (journal : Journal) (event : Event) → LawfulBringsGoodLoads journal event
brings_loads journal event lawful =
    by event.kind
    (sym (list_all-append has_good_loads (classes_of journal) (option_to_list (class_in event.kind)))
    ∙ (ap (list_all has_good_loads) (sym (gathers-on class_in journal event)) ∙ classes_have_good_loads (with_event journal event) lawful))
  where
    by : (kind : EventKind) → (list_all has_good_loads (classes_of journal) && list_all has_good_loads (option_to_list (class_in kind))) ≡ true → brings_good_loads kind ≡ true
    by (EventKind.Class form) good =
        let last = (and_parts (list_all has_good_loads (classes_of journal)) (has_good_loads form && true) good).1 in
        (and_parts (has_good_loads form) true last).0
    by _ good = refl

pub none_yet : AreTablesOf [] no_tables
none_yet = record {
  stand = record {
    terms = λ i j d lt within. absurd (omega (arith, within));
    accounts = λ i j d lt within. absurd (omega (arith, within));
    rates = λ i j d lt within. absurd (omega (arith, within));
    within = λ k d short. absurd (omega (arith, short));
  };
  terms = λ class. refl;
  accounts = λ account. refl;
  rates = λ class moment. refl;
  few_terms = omega arith;
  few_accounts = λ household. omega arith;
}
