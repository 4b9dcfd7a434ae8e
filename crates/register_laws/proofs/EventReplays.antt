-- What one event more does to the replay of a lawful journal.
use Rattle.std.proofs.Common.{All, AllPairs, Bool, Contains, List, None, Some, [], ap, append-nil, arith, cond, false, filter, find, get_or, length, option_map, option_to_list, refl, subst, sym, take, true, ℕ, ◌+◌, ◌++◌, ◌<◌, ◌==◌, ◌||◌, ◌∙◌, ◌∷◌, ◌≡◌, ◌≤◌}
use Rattle.std.proofs.lemmas.Bool.{and_parts, eqb-true, or_parts, true≢false}
use Rattle.std.proofs.lemmas.List.{get_or_append_left, get_or_push, length-append, take-append-le}
use Rattle.std.proofs.lemmas.List.Elements.{All-cons, All-filter, All-nil, All-take, Contains-get_or, filter-append}
use Rattle.std.proofs.lemmas.List.Folds.{list_any_at}
use Rattle.std.proofs.lemmas.List.Sums.{fold-append}
use Rattle.std.specs.List.{list_all, list_any}
use Rattle.std.specs.Option.{option_map_or}
use Rattle.agent_events.specs.Events.{Event, request_of}
use Rattle.agent_events.specs.declared.event.EventKind.{EventKind}
use Rattle.agent_events.specs.declared.order.OrderRow.{OrderRow}
use Rattle.agent_events.specs.declared.request.AccountForm.{AccountForm}
use Rattle.agent_events.specs.declared.request.CancelForm.{CancelForm}
use Rattle.agent_events.specs.declared.request.ClassForm.{ClassForm}
use Rattle.agent_events.specs.declared.request.DividendForm.{DividendForm}
use Rattle.agent_events.specs.declared.request.Request.{Request}
use Rattle.agent_events.specs.declared.request.SheetForm.{SheetForm}
use Rattle.register_laws.proofs.OneOfAName.{found-before}
use Rattle.register_laws.proofs.OrdersWait.{cancelled_on_none, order_waits, published-there}
use Rattle.register_laws.proofs.ReadsAlike.{first-same, sheets-same}
use Rattle.register_laws.proofs.SheetMore.{price-before-more, standing-more}
use Rattle.register_laws.specs.EventReplays.{KeepsSheets, LawfulAddsSheet, LawfulLeavesReplay, is_correction, is_sheet, sheet_behind}
use Rattle.register_laws.specs.ReadsAlike.{IsKnownRow, SheetAgrees, TermsAgree}
use Rattle.forward_price.specs.Sheets.{lists_class}
use Rattle.forward_price.specs.declared.price_sheet.Sheet.{Sheet}
use Rattle.register_laws.proofs.BooksGoOn.{book_goes_on}
use Rattle.register_laws.proofs.Choosing.{not_when}
use Rattle.register_laws.proofs.Comparisons.{eq-no, eq-yes}
use Rattle.register_laws.proofs.NamesStand.{names_stand}
use Rattle.register_laws.proofs.NoIdentityTwice.{dividend_free}
use Rattle.register_laws.proofs.NothingBefore.{last-brought}
use Rattle.register_laws.proofs.OrderReach.{event_reach}
use Rattle.register_laws.proofs.OrdersStanding.{orders-standing, standing_on}
use Rattle.register_laws.proofs.SheetsClimb.{sheets_never_fall}
use Rattle.register_laws.proofs.TablesAreOrderly.{numbered}
use Rattle.register_laws.proofs.Tests.{is-false}
use Rattle.register_laws.specs.CorrectionReach.{order_changed}
use Rattle.register_laws.specs.Identities.{has_number, is_class}
use Rattle.register_laws.specs.Lawful.{IsBrought, book_behind, own_at}
use Rattle.register_laws.specs.NamesStand.{is_placed_in}
use Rattle.register_laws.specs.OneEventMore.{book_after}
use Rattle.register_laws.specs.Priced.{row_placed}
use Rattle.register_machine.specs.journal.Choices.{last_of}
use Rattle.register_machine.specs.journal.Journals.{Journal, with_event}
use Rattle.register_machine.specs.journal.Kinds.{account_in, accounts_of, class_in, classes_of}
use Rattle.register_machine.specs.journal.Lawful.{IsLawful}
use Rattle.register_machine.specs.pricing.CorrectedBook.{Book, sheet_of}
use Rattle.register_machine.specs.pricing.CorrectedOrders.{stands}
use Rattle.register_machine.specs.pricing.DividendRates.{declares, fixes_rate, rate_at}
use Rattle.register_machine.specs.pricing.OrderClasses.{class_of, classes_in, target_of}
use Rattle.register_machine.specs.replay.Replay.{all_in_turn, day_after_sheet, first_day, is_priced_on, orders_on, priced_in, priced_orders, replay, replay_over, replay_to}
use Rattle.register_machine.specs.rules.InOrder.{broken_rule}
use Rattle.register_machine.specs.rules.Orders.{is_published_at}

-- ---- accounts and classes that are known

abbrev pub known_in : Journal → ℕ → Bool
known_in journal number = list_any (has_number number) (accounts_of journal)

abbrev pub named_in : Journal → ℕ → Bool
named_in journal class = list_any (is_class class) (classes_of journal)

terms-agree : (journal : Journal) (place moment : ℕ) (kind : EventKind) → TermsAgree (book_behind journal) (book_after place (book_behind journal) moment kind) (known_in journal) (named_in journal)
terms-agree journal place moment kind = record {
  front = λ class on. ap (λ found. option_map_or (λ (form : ClassForm). form.front) found []) (class-same class on);
  schedule = λ class on. ap (λ found. option_map_or (λ (form : ClassForm). form.deferred) found []) (class-same class on);
  counted = λ class on. ap (λ found. option_map_or (λ (form : ClassForm). form.counts) found false) (class-same class on);
  household = λ account on. ap (option_map (λ (form : AccountForm). form.household)) (sym (found-before (has_number account) (accounts_of journal) (option_to_list (account_in kind)) on));
}
  where
    class-same : (class : ℕ) → named_in journal class ≡ true → find (is_class class) (classes_of journal) ≡ find (is_class class) (classes_of journal ++ option_to_list (class_in kind))
    class-same class on = sym (found-before (is_class class) (classes_of journal) (option_to_list (class_in kind)) on)

known-row : (journal : Journal) (row : OrderRow) → is_placed_in journal row.order ≡ true → IsKnownRow (known_in journal) (named_in journal) row
known-row journal row placed =
    let both = and_parts (known_in journal row.order.account) (list_all (named_in journal) (classes_in row.order.body)) placed in
    let classes = and_parts (named_in journal (class_of row.order.body)) (list_all (named_in journal) (option_to_list (target_of row.order.body))) both.1 in
    record { account = both.0; own = classes.0; target = λ to is. (and_parts (named_in journal to) true (subst (λ found. list_all (named_in journal) (option_to_list found) ≡ true) is classes.1)).0 }

pub known-rows : (journal : Journal) → IsLawful journal → All (IsKnownRow (known_in journal) (named_in journal)) (filter stands (book_behind journal).orders)
known-rows journal lawful = All-filter stands (IsKnownRow (known_in journal) (named_in journal)) (book_behind journal).orders (each (book_behind journal).orders (names_stand journal lawful).orders)
  where
    each : (rows : List OrderRow) → list_all (λ row. is_placed_in journal row.order) rows ≡ true → All (IsKnownRow (known_in journal) (named_in journal)) rows
    each [] all = All-nil (IsKnownRow (known_in journal) (named_in journal))
    each (row ∷ rows) all =
        let both = and_parts (is_placed_in journal row.order) (list_all (λ row. is_placed_in journal row.order) rows) all in
        All-cons (IsKnownRow (known_in journal) (named_in journal)) row rows (known-row journal row both.0) (each rows both.1)

-- ---- what each sheet reads

-- a dividend is declared for a sheet that isn't published
other-moment : (journal : Journal) → IsLawful journal → (form : DividendForm) → is_published_at (book_behind journal) form.class form.moment ≡ false → (sheet : Sheet) → Contains (book_behind journal).table.sheets sheet → (class : ℕ) → lists_class sheet.prices class ≡ true → declares class sheet.moment form ≡ false
other-moment journal lawful form unpublished sheet among class lists =
    is-false (declares class sheet.moment form) (λ is.
    let both = and_parts (form.class == class) (form.moment == sheet.moment) is in
    let there = published-there journal lawful sheet class among lists in
    true≢false
    (sym (ap (λ c. is_published_at (book_behind journal) c form.moment) (eqb-true form.class class both.0)
    ∙ (ap (is_published_at (book_behind journal) class) (eqb-true form.moment sheet.moment both.1) ∙ there))
    ∙ unpublished))

one-more-declared : (forms : List DividendForm) (form : DividendForm) (class moment : ℕ) → declares class moment form ≡ false → find (declares class moment) (forms ++ form ∷ []) ≡ find (declares class moment) forms
one-more-declared [] form class moment off = ap (λ b. cond b (Some form) None) off
one-more-declared (other ∷ forms) form class moment off = ap (λ rest. cond (declares class moment other) (Some other) rest) (one-more-declared forms form class moment off)

rates-declared : (book : Book) (form : DividendForm) (class moment : ℕ) → declares class moment form ≡ false → rate_at book.rates class moment ≡ rate_at (record { declared = book.rates.declared ++ form ∷ []; fixed = book.rates.fixed }) class moment
rates-declared book form class moment off =
    ap (λ found. option_map_or (λ fix. fix.rate) (last_of (fixes_rate class moment) book.rates.fixed) (option_map_or (λ (declared : DividendForm). declared.rate) found 0))
    (sym (one-more-declared book.rates.declared form class moment off))

-- one order more that no sheet prices
one-more-standing : (sheets : List Sheet) (orders : List OrderRow) (row : OrderRow) (number : ℕ) → sheet_of sheets row ≡ None → standing_on sheets (orders ++ row ∷ []) number ≡ standing_on sheets orders number
one-more-standing sheets orders row number waits =
    ap (filter on) (filter-append stands orders (row ∷ []))
    ∙ (filter-append on (filter stands orders) (filter stands (row ∷ []))
    ∙ (ap (λ rest. filter on (filter stands orders) ++ rest) (by (stands row)) ∙ append-nil (filter on (filter stands orders))))
  where
    on : OrderRow → Bool
    on = λ other. is_priced_on number (priced_in sheets other)

    off : on row ≡ false
    off = ap (λ found. option_map_or (λ n. n == number) (option_map (λ (s : Sheet). s.number) found) false) waits

    by : (b : Bool) → filter on (cond b (row ∷ []) []) ≡ []
    by true = ap (λ b. cond b (row ∷ []) []) off
    by false = refl

same-orders : (book other : Book) (sheet : Sheet) → standing_on other.table.sheets other.orders sheet.number ≡ standing_on book.table.sheets book.orders sheet.number → orders_on (priced_orders other) sheet ≡ orders_on (priced_orders book) sheet
same-orders book other sheet same = orders-standing other sheet ∙ (ap all_in_turn same ∙ sym (orders-standing book sheet))

-- a number below that of a sheet behind the others
earlier-number : (journal : Journal) → IsLawful journal → (form : SheetForm) (k : ℕ) (d : Sheet) → k < length (book_behind journal).table.sheets → ((sheet_behind journal form).number == (get_or (book_behind journal).table.sheets k d).number) ≡ false
earlier-number journal lawful form k d short =
    eq-no (length (book_behind journal).table.sheets + 1) (get_or (book_behind journal).table.sheets k d).number
    (λ same. let is = (numbered journal lawful).corrected.each k d short in omega (arith, same, is, short))

-- each sheet before a new one isn't later
pub never-after : (journal : Journal) (event : Event) → IsLawful (with_event journal event) → (form : SheetForm) → event.kind ≡ EventKind.Sheet form → All (λ (s : Sheet). s.moment ≤ form.moment) (book_behind journal).table.sheets
never-after journal event lawful form is k d short =
    let low : get_or (sheets ++ sheet_behind journal form ∷ []) k d ≡ get_or sheets k d = get_or_append_left sheets (sheet_behind journal form ∷ []) d k short in
    let high : get_or (sheets ++ sheet_behind journal form ∷ []) (length sheets) d ≡ sheet_behind journal form = get_or_push sheets (sheet_behind journal form) d (length sheets) refl in
    subst (λ (s : Sheet). s.moment ≤ form.moment) low (subst (λ (s : Sheet). (get_or (sheets ++ sheet_behind journal form ∷ []) k d).moment ≤ s.moment) high (rise k (length sheets) d short (length-more sheets (sheet_behind journal form))))
  where
    sheets : List Sheet
    sheets = (book_behind journal).table.sheets

    after : (book_behind (with_event journal event)).table.sheets ≡ sheets ++ sheet_behind journal form ∷ []
    after = ap (λ (b : Book). b.table.sheets) (book_goes_on journal event lawful ∙ ap (book_after (length journal) (book_behind journal) event.moment) is)

    rise : AllPairs (λ (sheet later : Sheet). sheet.moment ≤ later.moment) (sheets ++ sheet_behind journal form ∷ [])
    rise = subst (λ all. AllPairs (λ (sheet later : Sheet). sheet.moment ≤ later.moment) all) after (sheets_never_fall (with_event journal event) lawful)

    length-more : (xs : List Sheet) (x : Sheet) → length xs < length (xs ++ x ∷ [])
    length-more xs x = let more = length-append xs (x ∷ []) in omega (arith, more)

listed-there : (prices : List (ℕ × ℕ)) (k : ℕ) (d : ℕ × ℕ) → k < length prices → lists_class prices (get_or prices k d).0 ≡ true
listed-there prices k d short =
    list_any_at (λ (p : ℕ × ℕ). p.0 == (get_or prices k d).0) prices k d short (eq-yes (get_or prices k d).0 (get_or prices k d).0 refl)

-- a cancel strikes an order
abbrev strikes_order : EventKind → Bool
strikes_order (EventKind.Cancel form) = true
strikes_order _ = false

-- what a sheet reads is the same with an event more that is no correction
sheet-agrees : (journal : Journal) (event : Event) → IsLawful (with_event journal event) → (kind : EventKind) → event.kind ≡ kind → is_correction kind ≡ false → (strikes_order kind ≡ false) → (k : ℕ) (d : Sheet) → k < length (book_behind journal).table.sheets → SheetAgrees (book_behind journal) (book_after (length journal) (book_behind journal) event.moment kind) (get_or (book_behind journal).table.sheets k d)
sheet-agrees journal event lawful (EventKind.Sheet form) is plain other k d short = record {
  before = λ class. sym (price-before-more (book_behind journal).table.sheets (sheet_behind journal form) class (get_or (book_behind journal).table.sheets k d).moment (past k d short));
  rates = λ i e within. refl;
  orders = same-orders (book_behind journal) (book_after (length journal) (book_behind journal) event.moment (EventKind.Sheet form)) (get_or (book_behind journal).table.sheets k d)
      (standing-more (book_behind journal).table.sheets (sheet_behind journal form) (get_or (book_behind journal).table.sheets k d).number (book_behind journal).orders past (earlier-number journal (last-brought journal event lawful).0 form k d short));
}
  where
    past : All (λ (s : Sheet). s.moment ≤ form.moment) (book_behind journal).table.sheets
    past = never-after journal event lawful form is
sheet-agrees journal event lawful (EventKind.Order placed) is plain other k d short = record {
  before = λ class. refl;
  rates = λ i e within. refl;
  orders = same-orders (book_behind journal) (book_after (length journal) (book_behind journal) event.moment (EventKind.Order placed)) (get_or (book_behind journal).table.sheets k d)
      (one-more-standing (book_behind journal).table.sheets (book_behind journal).orders (row_placed journal placed) (get_or (book_behind journal).table.sheets k d).number (order_waits journal event lawful placed is));
}
sheet-agrees journal event lawful (EventKind.Dividend form) is plain other k d short = record {
  before = λ class. refl;
  rates = λ i e within. rates-declared (book_behind journal) form (get_or sheet.prices i e).0 sheet.moment
      (other-moment journal last.0 form unpublished sheet (Contains-get_or (book_behind journal).table.sheets k d short) (get_or sheet.prices i e).0 (listed-there sheet.prices i e within));
  orders = refl;
}
  where
    sheet : Sheet
    sheet = get_or (book_behind journal).table.sheets k d

    last : IsLawful journal × IsBrought journal event
    last = last-brought journal event lawful

    unpublished : is_published_at (book_behind journal) form.class form.moment ≡ false
    unpublished =
        (or_parts (list_any (declares form.class form.moment) (book_behind journal).rates.declared) (is_published_at (book_behind journal) form.class form.moment)
        (not_when (list_any (declares form.class form.moment) (book_behind journal).rates.declared || is_published_at (book_behind journal) form.class form.moment) form.class
        (dividend_free (own_at journal event.moment last.1.caller) (Request.Dividend form) (subst (λ kind. broken_rule (own_at journal event.moment last.1.caller) (request_of kind) ≡ None) is last.1.clear)))).1
sheet-agrees journal event lawful (EventKind.Calendar form) is plain other k d short = record { before = λ class. refl; rates = λ i e within. refl; orders = refl }
sheet-agrees journal event lawful (EventKind.Close form) is plain other k d short = record { before = λ class. refl; rates = λ i e within. refl; orders = refl }
sheet-agrees journal event lawful (EventKind.Class form) is plain other k d short = record { before = λ class. refl; rates = λ i e within. refl; orders = refl }
sheet-agrees journal event lawful (EventKind.Dealer form) is plain other k d short = record { before = λ class. refl; rates = λ i e within. refl; orders = refl }
sheet-agrees journal event lawful (EventKind.Household form) is plain other k d short = record { before = λ class. refl; rates = λ i e within. refl; orders = refl }
sheet-agrees journal event lawful (EventKind.Account form) is plain other k d short = record { before = λ class. refl; rates = λ i e within. refl; orders = refl }
sheet-agrees journal event lawful (EventKind.Cancel form) is plain other k d short = absurd (true≢false other)
sheet-agrees journal event lawful (EventKind.FixPrice form) is plain other k d short = absurd (true≢false plain)
sheet-agrees journal event lawful (EventKind.FixRate form) is plain other k d short = absurd (true≢false plain)
sheet-agrees journal event lawful (EventKind.Enter form) is plain other k d short = absurd (true≢false plain)
sheet-agrees journal event lawful (EventKind.Replace form) is plain other k d short = absurd (true≢false plain)
sheet-agrees journal event lawful (EventKind.Void form) is plain other k d short = absurd (true≢false plain)

-- ---- the replay

over-same : (journal : Journal) (event : Event) → IsLawful (with_event journal event) → is_correction event.kind ≡ false → strikes_order event.kind ≡ false → (sheets : List Sheet) → All (SheetAgrees (book_behind journal) (book_behind (with_event journal event))) sheets → replay_over (book_behind journal) sheets ≡ replay_over (book_behind (with_event journal event)) sheets
over-same journal event lawful plain other sheets reads =
    (sheets-same (book_behind journal) (book_behind (with_event journal event)) (known_in journal) (named_in journal)
    (subst (λ b. TermsAgree (book_behind journal) b (known_in journal) (named_in journal)) (sym (book_goes_on journal event lawful)) (terms-agree journal (length journal) event.moment event.kind))
    (known-rows journal (last-brought journal event lawful).0) sheets reads first_day first_day (first-same (known_in journal) (named_in journal))).same

all-agree : (journal : Journal) (event : Event) → IsLawful (with_event journal event) → is_correction event.kind ≡ false → strikes_order event.kind ≡ false → All (SheetAgrees (book_behind journal) (book_behind (with_event journal event))) (book_behind journal).table.sheets
all-agree journal event lawful plain other k d short =
    subst (λ b. SheetAgrees (book_behind journal) b (get_or (book_behind journal).table.sheets k d)) (sym (book_goes_on journal event lawful))
    (sheet-agrees journal event lawful event.kind refl plain other k d short)

pub sheets-kept : (journal : Journal) (event : Event) → IsLawful (with_event journal event) → (kind : EventKind) → event.kind ≡ kind → is_correction kind ≡ false → is_sheet kind ≡ false → (book_behind (with_event journal event)).table.sheets ≡ (book_behind journal).table.sheets
sheets-kept journal event lawful kind is plain other =
    ap (λ (b : Book). b.table.sheets) (book_goes_on journal event lawful ∙ ap (book_after (length journal) (book_behind journal) event.moment) is) ∙ by kind plain other
  where
    by : (kind : EventKind) → is_correction kind ≡ false → is_sheet kind ≡ false → (book_after (length journal) (book_behind journal) event.moment kind).table.sheets ≡ (book_behind journal).table.sheets
    by (EventKind.Sheet form) plain other = absurd (true≢false other)
    by (EventKind.FixPrice form) plain other = absurd (true≢false plain)
    by (EventKind.Calendar form) plain other = refl
    by (EventKind.Close form) plain other = refl
    by (EventKind.Class form) plain other = refl
    by _ plain other = refl

cancel-leaves : (journal : Journal) (event : Event) → IsLawful (with_event journal event) → (form : CancelForm) → event.kind ≡ EventKind.Cancel form → KeepsSheets journal event × (replay (book_behind (with_event journal event)) ≡ replay (book_behind journal))
cancel-leaves journal event lawful form is =
    let reach = event_reach journal event lawful in
    let named = ap order_changed is in (
      record { up_to = λ number. sym (reach.before (form.account, form.target) named number (cancelled_on_none journal event lawful form is (take number (book_behind journal).table.sheets))) },
      reach.nowhere (form.account, form.target) named (cancelled_on_none journal event lawful form is (book_behind journal).table.sheets),
    )

others-leave : (journal : Journal) (event : Event) → IsLawful (with_event journal event) → is_correction event.kind ≡ false → is_sheet event.kind ≡ false → strikes_order event.kind ≡ false → KeepsSheets journal event × (replay (book_behind (with_event journal event)) ≡ replay (book_behind journal))
unfolding replay
others-leave journal event lawful plain other free =
    let book = book_behind journal in
    let after = book_behind (with_event journal event) in
    let kept = sheets-kept journal event lawful event.kind refl plain other in
    let agree = all-agree journal event lawful plain free in (
      record {
        up_to = λ number.
            over-same journal event lawful plain free (take number book.table.sheets) (All-take (SheetAgrees book after) number book.table.sheets agree)
            ∙ ap (λ sheets. replay_over after (take number sheets)) (sym kept);
      },
      ap (replay_over after) kept ∙ sym (over-same journal event lawful plain free book.table.sheets agree),
    )

pub leaves_replay : (journal : Journal) (event : Event) → LawfulLeavesReplay journal event
leaves_replay journal event lawful plain other = by event.kind refl
  where
    by : (kind : EventKind) → event.kind ≡ kind → KeepsSheets journal event × (replay (book_behind (with_event journal event)) ≡ replay (book_behind journal))
    by (EventKind.Cancel form) is = cancel-leaves journal event lawful form is
    by kind is = others-leave journal event lawful plain other (subst (λ k. strikes_order k ≡ false) (sym is) refl)

-- ---- a sheet more

-- it comes behind the others
pub sheet-behind-all : (journal : Journal) (event : Event) → IsLawful (with_event journal event) → (form : SheetForm) → event.kind ≡ EventKind.Sheet form → (book_behind (with_event journal event)).table.sheets ≡ (book_behind journal).table.sheets ++ sheet_behind journal form ∷ []
sheet-behind-all journal event lawful form is =
    ap (λ (b : Book). b.table.sheets) (book_goes_on journal event lawful ∙ ap (book_after (length journal) (book_behind journal) event.moment) is)

-- up to it nothing changes
pub same-before : (journal : Journal) (event : Event) → IsLawful (with_event journal event) → (form : SheetForm) → event.kind ≡ EventKind.Sheet form → (number : ℕ) → number ≤ length (book_behind journal).table.sheets → replay_to (book_behind (with_event journal event)) number ≡ replay_to (book_behind journal) number
same-before journal event lawful form is number few =
    let sheets = (book_behind journal).table.sheets in
    let plain = ap is_correction is in
    let free = ap strikes_order is in
    sym (over-same journal event lawful plain free (take number sheets) (All-take (SheetAgrees (book_behind journal) (book_behind (with_event journal event))) number sheets (all-agree journal event lawful plain free))
    ∙ ap (replay_over (book_behind (with_event journal event))) (sym (ap (take number) (sheet-behind-all journal event lawful form is) ∙ take-append-le number sheets (sheet_behind journal form ∷ []) few)))

-- and the replay goes on over it
pub goes-over : (journal : Journal) (event : Event) → IsLawful (with_event journal event) → (form : SheetForm) → event.kind ≡ EventKind.Sheet form → replay (book_behind (with_event journal event)) ≡ day_after_sheet (book_behind (with_event journal event)) (priced_orders (book_behind (with_event journal event))) (replay (book_behind journal)) (sheet_behind journal form)
unfolding replay
goes-over journal event lawful form is =
    let sheets = (book_behind journal).table.sheets in
    let plain = ap is_correction is in
    let free = ap strikes_order is in
    ap (replay_over (book_behind (with_event journal event))) (sheet-behind-all journal event lawful form is)
    ∙ (fold-append (day_after_sheet (book_behind (with_event journal event)) (priced_orders (book_behind (with_event journal event)))) first_day sheets (sheet_behind journal form ∷ [])
    ∙ ap (λ day. day_after_sheet (book_behind (with_event journal event)) (priced_orders (book_behind (with_event journal event))) day (sheet_behind journal form))
    (sym (over-same journal event lawful plain free sheets (all-agree journal event lawful plain free))))

pub adds_sheet : (journal : Journal) (event : Event) → LawfulAddsSheet journal event
adds_sheet journal event lawful form is = record {
  sheets = sheet-behind-all journal event lawful form is;
  up_to = same-before journal event lawful form is;
  goes_on = goes-over journal event lawful form is;
}
