-- The book of a lawful journal is orderly and within limits, and in range where its events are.
use Rattle.std.proofs.Common.{All, Bool, List, None, Option, Some, [], cond, false, filter, fold, is_none, refl, sym, true, ℕ, ◌∷◌, ◌≡◌, ◌≤◌}
use Rattle.std.proofs.lemmas.Bool.{and_parts, true≢false}
use Rattle.std.proofs.lemmas.List.Elements.{All-cons, All-filter, All-head, All-map, All-nil, All-push, All-tail, All-weaker}
use Rattle.std.specs.List.{cons_option, list_all}
use Rattle.std.specs.Option.{option_map_or}
use Rattle.agent_events.specs.declared.event.EventKind.{EventKind}
use Rattle.agent_events.specs.declared.request.ClassForm.{ClassForm}
use Rattle.agent_events.specs.declared.request.FixPriceForm.{FixPriceForm}
use Rattle.class_terms.specs.Tables.{deferred_fault, front_fault}
use Rattle.forward_price.specs.PriceTables.{Table, sheet_published}
use Rattle.forward_price.specs.declared.price_sheet.Sheet.{Sheet}
use Rattle.register_laws.proofs.BookOrders.{SaidAs, SaysAs, order_said, orders-as}
use Rattle.register_laws.proofs.FitsRows.{classes_have_good_loads}
use Rattle.register_laws.proofs.HouseholdCredit.{FoundAs}
use Rattle.register_laws.proofs.KeepsLimits.{keeps_its_limits}
use Rattle.register_laws.proofs.LettersKept.{keeps_letters}
use Rattle.register_laws.proofs.OrderlyBooks.{lawful_book_is_orderly}
use Rattle.register_laws.proofs.RegistersKept.{keeps_registers}
use Rattle.register_laws.proofs.SharesByTrades.{shares_go_by_trades}
use Rattle.register_laws.proofs.TradesMoveCash.{trades_move_their_cash}
use Rattle.register_laws.specs.Lawful.{book_behind}
use Rattle.register_laws.specs.LawfulLimits.{has_good_loads}
use Rattle.register_laws.specs.LawfulReplays.{EventInRange, HasALawfulBook, KeepsItsReplay, SaysInRange}
use Rattle.register_laws.specs.ReplayKeeps.{AsksInRange, IsWithinLimits, RowInRange, SheetInRange, TermsWithinLimits, most_nav}
use Rattle.register_machine.specs.journal.Choices.{last_of}
use Rattle.register_machine.specs.journal.Journals.{Journal}
use Rattle.register_machine.specs.journal.Kinds.{classes_of, each_in, price_fix_in}
use Rattle.register_machine.specs.journal.Lawful.{IsLawful}
use Rattle.register_machine.specs.pricing.CorrectedOrders.{orders_of, stands}
use Rattle.register_machine.specs.pricing.CorrectedPrices.{fixes_price, price_as_corrected, sheet_as_corrected}
use Rattle.register_machine.specs.pricing.PublishedTable.{empty_table, table_after, table_behind, table_by, table_of}
use Rattle.register_machine.specs.run.Answers.{says}

-- ---- limits

good-terms : (form : ClassForm) → has_good_loads form ≡ true → TermsWithinLimits form
good-terms form good =
    let parts = and_parts (is_none (front_fault form.front)) (is_none (deferred_fault form.deferred)) good in
    record { front = none (front_fault form.front) parts.0; deferred = none (deferred_fault form.deferred) parts.1 }
  where
    none : (fault : Option ℕ) → is_none fault ≡ true → fault ≡ None
    none None e = refl
    none (Some place) e = absurd (true≢false (sym e))

all-good : (forms : List ClassForm) → list_all has_good_loads forms ≡ true → All TermsWithinLimits forms
all-good [] good = All-nil TermsWithinLimits
all-good (form ∷ forms) good =
    let parts = and_parts (has_good_loads form) (list_all has_good_loads forms) good in
    All-cons TermsWithinLimits form forms (good-terms form parts.0) (all-good forms parts.1)

within_limits : (journal : Journal) → IsLawful journal → IsWithinLimits (book_behind journal)
within_limits journal lawful =
    let limits = keeps_its_limits journal lawful in
    record {
      terms = all-good (classes_of journal) (classes_have_good_loads journal lawful);
      few_classes = limits.classes;
      few_accounts = limits.accounts;
    }

-- ---- ranges

abbrev PriceInRange : ℕ × ℕ → Type 0
PriceInRange price = price.1 ≤ most_nav

abbrev FixInRange : FixPriceForm → Type 0
FixInRange form = form.nav ≤ most_nav

-- the sheets of a table
table-ranges : (table : Table) (moment : ℕ) (kind : EventKind) → SaysInRange kind → All SheetInRange table.sheets → All SheetInRange (table_by table moment kind).sheets
table-ranges table moment (EventKind.Sheet form) says all =
    All-push SheetInRange table.sheets (sheet_published table form.calendar form.moment form.prices) all says
table-ranges table moment kind says all = all

tables-range : (table : Table) (events : Journal) → All EventInRange events → All SheetInRange table.sheets → All SheetInRange (fold table_after table events).sheets
tables-range table [] says all = all
tables-range table (event ∷ events) says all =
    tables-range (table_after table event) events (All-tail EventInRange event events says)
    (table-ranges table event.moment event.kind (All-head EventInRange event events says) all)

-- their corrections
fixes-range : (journal : Journal) → All EventInRange journal → All FixInRange (each_in price_fix_in journal)
fixes-range [] says = All-nil FixInRange
fixes-range (event ∷ events) says =
    one event.kind (All-head EventInRange event events says) (fixes-range events (All-tail EventInRange event events says))
  where
    one : (kind : EventKind) → SaysInRange kind → All FixInRange (each_in price_fix_in events) → All FixInRange (cons_option (price_fix_in kind) (each_in price_fix_in events))
    one (EventKind.FixPrice form) is rest = All-cons FixInRange form (each_in price_fix_in events) is rest
    one kind is rest = rest

last-ranges : (test : FixPriceForm → Bool) (found : Option FixPriceForm) (forms : List FixPriceForm) → FoundAs FixInRange found → All FixInRange forms → FoundAs FixInRange (fold (λ found form. cond (test form) (Some form) found) found forms)
last-ranges test found [] is all = is
last-ranges test found (form ∷ forms) is all =
    last-ranges test (cond (test form) (Some form) found) forms
    (elim (test form) as (λ b. FoundAs FixInRange (cond b (Some form) found)) [ true ↦ All-head FixInRange form forms all | false ↦ is ])
    (All-tail FixInRange form forms all)

price-ranges : (fixes : List FixPriceForm) (moment : ℕ) (price : ℕ × ℕ) → All FixInRange fixes → PriceInRange price → PriceInRange (price_as_corrected fixes moment price)
price-ranges fixes moment price all is =
    by (last_of (fixes_price price.0 moment) fixes) (last-ranges (fixes_price price.0 moment) None fixes tt all)
  where
    by : (found : Option FixPriceForm) → FoundAs FixInRange found → option_map_or (λ form. form.nav) found price.1 ≤ most_nav
    by None low = is
    by (Some form) low = low

sheet-ranges : (fixes : List FixPriceForm) (sheet : Sheet) → All FixInRange fixes → SheetInRange sheet → SheetInRange (sheet_as_corrected fixes sheet)
sheet-ranges fixes sheet all is =
    All-map PriceInRange (price_as_corrected fixes sheet.moment) sheet.prices
    (All-weaker PriceInRange (λ price. PriceInRange (price_as_corrected fixes sheet.moment price)) (λ price low. price-ranges fixes sheet.moment price all low) sheet.prices is)

prices-range : (journal : Journal) → All EventInRange journal → All SheetInRange (book_behind journal).table.sheets
unfolding table_behind
prices-range journal says =
    let fixes = each_in price_fix_in journal in
    let sheets = (table_of journal).sheets in
    All-map SheetInRange (sheet_as_corrected fixes) sheets
    (All-weaker SheetInRange (λ sheet. SheetInRange (sheet_as_corrected fixes sheet)) (λ sheet is. sheet-ranges fixes sheet (fixes-range journal says) is) sheets
    (tables-range empty_table journal says (All-nil SheetInRange)))

-- the orders
orders-range : (journal : Journal) → All EventInRange journal → All RowInRange (filter stands (book_behind journal).orders)
unfolding SaysAs
orders-range journal says =
    All-filter stands RowInRange (orders_of journal)
    (orders-as (λ order. AsksInRange order.body) journal
    (All-weaker EventInRange (SaysAs (λ order. AsksInRange order.body)) (λ event is. one event.kind is) journal says))
  where
    one : (kind : EventKind) → SaysInRange kind → SaidAs (λ order. AsksInRange order.body) (order_said kind)
    one (EventKind.Order placed) is = is
    one (EventKind.Enter form) is = is
    one (EventKind.Replace form) is = is
    one kind is = tt

-- ---- the laws

pub has_a_lawful_book : (journal : Journal) → IsLawful journal → HasALawfulBook journal
has_a_lawful_book journal lawful = record {
  orderly = lawful_book_is_orderly journal lawful;
  within = within_limits journal lawful;
  in_range = λ says. record { prices = prices-range journal says; letters = orders-range journal says };
}

pub keeps_its_replay : (journal : Journal) → IsLawful journal → KeepsItsReplay journal
keeps_its_replay journal lawful =
    let book = book_behind journal in
    let is = has_a_lawful_book journal lawful in
    record {
      registers = keeps_registers book is.orderly;
      letters = λ says. keeps_letters book is.orderly is.within (is.in_range says);
      cash = trades_move_their_cash book is.within;
      shares = λ class. shares_go_by_trades book class is.orderly;
    }
