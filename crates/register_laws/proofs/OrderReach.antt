-- How far an event reaches: an order changes its own household alone, from its first sheet on, and a price or a rate of a class
-- those that name it.
use Rattle.std.proofs.Common.{All, Bool, List, Some, [], ap, append-nil, cond, false, filter, get_or, length, map, not, refl, subst, sym, take, true, ℕ, ◌&&◌, ◌++◌, ◌==◌, ◌∙◌, ◌∷◌, ◌≡◌}
use Rattle.std.proofs.lemmas.Bool.{and_from, and_parts, eq-eqb, eqb-true, true≢false}
use Rattle.std.proofs.lemmas.List.{map-id, take-map}
use Rattle.std.proofs.lemmas.List.Elements.{All-filter, filter-append, filter_agree, filter_passes}
use Rattle.std.specs.List.{list_any}
use Rattle.agent_events.specs.Events.{Event}
use Rattle.agent_events.specs.declared.event.EventKind.{EventKind}
use Rattle.agent_events.specs.declared.order.Order.{Order}
use Rattle.agent_events.specs.declared.order.OrderRow.{OrderRow}
use Rattle.agent_events.specs.declared.request.AccountForm.{AccountForm}
use Rattle.agent_events.specs.declared.request.ClassForm.{ClassForm}
use Rattle.agent_events.specs.declared.request.EntryForm.{EntryForm}
use Rattle.agent_events.specs.declared.request.FixPriceForm.{FixPriceForm}
use Rattle.agent_events.specs.declared.request.FixRateForm.{FixRateForm}
use Rattle.forward_price.specs.declared.price_sheet.Sheet.{Sheet}
use Rattle.register_laws.proofs.BooksGoOn.{book_goes_on_by, touches_nothing}
use Rattle.register_laws.proofs.Choosing.{none_some}
use Rattle.register_laws.proofs.CorrectionReach.{leaves-part, price-replay, price_leaves_before, rate-replay, rate_leaves_before}
use Rattle.register_laws.proofs.ListParts.{filter-all, filter-map, filter-swap, fold-known, maps-agree}
use Rattle.register_laws.proofs.LawfulJournals.{lawful-before}
use Rattle.register_laws.proofs.OrdersStanding.{orders-standing, standing_on}
use Rattle.register_laws.proofs.SheetsClimb.{sheets-before}
use Rattle.register_laws.proofs.StepsAlike.{books_step_alike}
use Rattle.register_laws.specs.CorrectionReach.{IsOnNone, LawfulEventReach, LeavesPart, TriedEventReach, book_with_price, book_with_rate, is_on_sheet, order_changed}
use Rattle.register_laws.specs.Households.{is_of_household, own_book, own_orders}
use Rattle.register_laws.specs.Lawful.{book_behind}
use Rattle.register_laws.specs.OneEventMore.{TouchesNothing, book_after, orders_after, replaced_by, struck_by}
use Rattle.register_machine.proofs.ListItems.{none-all}
use Rattle.register_machine.specs.journal.Journals.{Journal, with_event}
use Rattle.register_machine.specs.journal.Kinds.{accounts_of}
use Rattle.register_machine.specs.pricing.CorrectedBook.{Book}
use Rattle.register_machine.specs.pricing.CorrectedOrders.{is_named, replaces, row_as_sent, stands}
use Rattle.register_machine.specs.replay.DayStep.{day_step}
use Rattle.register_machine.specs.replay.Replay.{all_in_turn, day_after_sheet, first_day, is_priced_on, orders_on, priced_in, priced_orders, replay, replay_over, replay_to}
use Rattle.register_machine.specs.replay.Trades.{Day}
use Rattle.register_machine.specs.pricing.CorrectedPrices.{sheet_as_corrected}

-- the book with other orders
abbrev with_orders : Book → List OrderRow → Book
with_orders book orders = record {
  table = book.table;
  classes = book.classes;
  accounts = book.accounts;
  orders = orders;
  rates = book.rates;
}

-- ---- the orders that an event leaves

-- a change of some orders leaves those that pass a test which none of them passes
left-alone : (keep : OrderRow → Bool) (f : OrderRow → OrderRow) → ((row : OrderRow) → keep row ≡ true → f row ≡ row) → ((row : OrderRow) → keep (f row) ≡ keep row) → (rows : List OrderRow) → filter keep (map f rows) ≡ filter keep rows
left-alone keep f same kept rows =
    filter-map keep f rows
    ∙ (ap (map f) (filter_agree (λ row. keep (f row)) keep kept rows)
    ∙ (maps-agree keep f (λ row. row) same rows ∙ map-id (filter keep rows)))

one-more : (keep : OrderRow → Bool) (rows : List OrderRow) (row : OrderRow) → keep row ≡ false → filter keep (rows ++ row ∷ []) ≡ filter keep rows
one-more keep rows row off =
    filter-append keep rows (row ∷ [])
    ∙ (ap (λ b. filter keep rows ++ cond b (row ∷ []) []) off ∙ append-nil (filter keep rows))

struck-left : (k : Order → Bool) (named : ℕ × ℕ) → ((order : Order) → is_named named.0 named.1 order ≡ true → k order ≡ false) → (rows : List OrderRow) → filter (λ row. k row.order) (map (struck_by named) rows) ≡ filter (λ row. k row.order) rows
struck-left k named off rows = left-alone (λ row. k row.order) (struck_by named) same kept rows
  where
    same : (row : OrderRow) → k row.order ≡ true → struck_by named row ≡ row
    same row on =
        elim (is_named named.0 named.1 row.order) as (λ b. is_named named.0 named.1 row.order ≡ b → cond b (record { place = row.place; receipt = row.receipt; struck = true; order = row.order }) row ≡ row) [
          | true ↦ λ t. absurd (true≢false (sym on ∙ off row.order t))
          | false ↦ λ t. refl
        ] refl

    kept : (row : OrderRow) → k (struck_by named row).order ≡ k row.order
    kept row =
        elim (is_named named.0 named.1 row.order) as (λ b. k (cond b (record { place = row.place; receipt = row.receipt; struck = true; order = row.order }) row).order ≡ k row.order) [
          | true ↦ refl
          | false ↦ refl
        ]

replaced-left : (k : Order → Bool) (form : EntryForm) → ((order : Order) → is_named form.order.account form.order.ref_no order ≡ true → k order ≡ false) → (rows : List OrderRow) → filter (λ row. k row.order) (map (replaced_by form) rows) ≡ filter (λ row. k row.order) rows
replaced-left k form off rows = left-alone (λ row. k row.order) (replaced_by form) same kept rows
  where
    own-name : is_named form.order.account form.order.ref_no form.order ≡ true
    own-name =
        and_from (form.order.account == form.order.account) (form.order.ref_no == form.order.ref_no) (eq-eqb form.order.account form.order.account refl) (eq-eqb form.order.ref_no form.order.ref_no refl)

    both-named : (order : Order) → replaces order form ≡ true → is_named form.order.account form.order.ref_no order ≡ true
    both-named order t =
        let parts = and_parts (form.order.account == order.account) (form.order.ref_no == order.ref_no) t in
        and_from (order.account == form.order.account) (order.ref_no == form.order.ref_no)
        (eq-eqb order.account form.order.account (sym (eqb-true form.order.account order.account parts.0)))
        (eq-eqb order.ref_no form.order.ref_no (sym (eqb-true form.order.ref_no order.ref_no parts.1)))

    same : (row : OrderRow) → k row.order ≡ true → replaced_by form row ≡ row
    same row on =
        elim (replaces row.order form) as (λ b. replaces row.order form ≡ b → cond b (record { place = row.place; receipt = form.receipt; struck = row.struck; order = form.order }) row ≡ row) [
          | true ↦ λ t. absurd (true≢false (sym on ∙ off row.order (both-named row.order t)))
          | false ↦ λ t. refl
        ] refl

    kept : (row : OrderRow) → k (replaced_by form row).order ≡ k row.order
    kept row =
        elim (replaces row.order form) as (λ b. replaces row.order form ≡ b → k (cond b (record { place = row.place; receipt = form.receipt; struck = row.struck; order = form.order }) row).order ≡ k row.order) [
          | true ↦ λ t. off form.order own-name ∙ sym (off row.order (both-named row.order t))
          | false ↦ λ t. refl
        ] refl

named-own : (order : Order) → is_named order.account order.ref_no order ≡ true
named-own order =
    and_from (order.account == order.account) (order.ref_no == order.ref_no) (eq-eqb order.account order.account refl) (eq-eqb order.ref_no order.ref_no refl)

pub orders-left : (k : Order → Bool) (kind : EventKind) (named : ℕ × ℕ) → order_changed kind ≡ Some named → ((order : Order) → is_named named.0 named.1 order ≡ true → k order ≡ false) → (place : ℕ) (rows : List OrderRow) → filter (λ row. k row.order) (orders_after place rows kind) ≡ filter (λ row. k row.order) rows
orders-left k (EventKind.Order placed) named is off place rows =
    let same : (placed.order.account, placed.order.ref_no) ≡ named = cc in
    one-more (λ row. k row.order) rows (row_as_sent place placed.receipt placed.order) (off placed.order (subst (λ (n : ℕ × ℕ). is_named n.0 n.1 placed.order ≡ true) same (named-own placed.order)))
orders-left k (EventKind.Enter form) named is off place rows =
    let same : (form.order.account, form.order.ref_no) ≡ named = cc in
    one-more (λ row. k row.order) rows (row_as_sent place form.receipt form.order) (off form.order (subst (λ (n : ℕ × ℕ). is_named n.0 n.1 form.order ≡ true) same (named-own form.order)))
orders-left k (EventKind.Replace form) named is off place rows =
    let same : (form.order.account, form.order.ref_no) ≡ named = cc in
    replaced-left k form (λ order e. off order (subst (λ (n : ℕ × ℕ). is_named n.0 n.1 order ≡ true) same e)) rows
orders-left k (EventKind.Cancel form) named is off place rows =
    let same : (form.account, form.target) ≡ named = cc in
    struck-left k (form.account, form.target) (λ order e. off order (subst (λ (n : ℕ × ℕ). is_named n.0 n.1 order ≡ true) same e)) rows
orders-left k (EventKind.Void form) named is off place rows =
    let same : (form.account, form.ref_no) ≡ named = cc in
    struck-left k (form.account, form.ref_no) (λ order e. off order (subst (λ (n : ℕ × ℕ). is_named n.0 n.1 order ≡ true) same e)) rows
orders-left k kind named is off place rows = absurd (none_some is)

-- ---- the book behind an event

price-book : (place : ℕ) (book : Book) (moment : ℕ) (form : FixPriceForm) → book_after place book moment (EventKind.FixPrice form) ≡ book_with_price form book
price-book place book moment form =
    ap (λ (classes : List ClassForm). let b : Book = record { table = (book_with_price form book).table; classes = classes; accounts = book.accounts ++ []; orders = book.orders; rates = book.rates } in b) (append-nil book.classes)
    ∙ ap (λ (accounts : List AccountForm). let b : Book = record { table = (book_with_price form book).table; classes = book.classes; accounts = accounts; orders = book.orders; rates = book.rates } in b) (append-nil book.accounts)

rate-book : (place : ℕ) (book : Book) (moment : ℕ) (form : FixRateForm) → book_after place book moment (EventKind.FixRate form) ≡ book_with_rate form book
rate-book place book moment form =
    ap (λ (classes : List ClassForm). let b : Book = record { table = book.table; classes = classes; accounts = book.accounts ++ []; orders = book.orders; rates = (book_with_rate form book).rates } in b) (append-nil book.classes)
    ∙ ap (λ (accounts : List AccountForm). let b : Book = record { table = book.table; classes = book.classes; accounts = accounts; orders = book.orders; rates = (book_with_rate form book).rates } in b) (append-nil book.accounts)

nothing-more : (book : Book) (orders : List OrderRow) → record { table = book.table; classes = book.classes ++ []; accounts = book.accounts ++ []; orders = orders; rates = book.rates } ≡ with_orders book orders
nothing-more book orders =
    ap (λ (classes : List ClassForm). let b : Book = record { table = book.table; classes = classes; accounts = book.accounts ++ []; orders = orders; rates = book.rates } in b) (append-nil book.classes)
    ∙ ap (λ (accounts : List AccountForm). let b : Book = record { table = book.table; classes = book.classes; accounts = accounts; orders = orders; rates = book.rates } in b) (append-nil book.accounts)

order-book : (place : ℕ) (book : Book) (moment : ℕ) (kind : EventKind) (named : ℕ × ℕ) → order_changed kind ≡ Some named → book_after place book moment kind ≡ with_orders book (orders_after place book.orders kind)
order-book place book moment (EventKind.Order placed) named is = nothing-more book (orders_after place book.orders (EventKind.Order placed))
order-book place book moment (EventKind.Enter form) named is = nothing-more book (orders_after place book.orders (EventKind.Enter form))
order-book place book moment (EventKind.Replace form) named is = nothing-more book (orders_after place book.orders (EventKind.Replace form))
order-book place book moment (EventKind.Cancel form) named is = nothing-more book (orders_after place book.orders (EventKind.Cancel form))
order-book place book moment (EventKind.Void form) named is = nothing-more book (orders_after place book.orders (EventKind.Void form))
order-book place book moment kind named is = absurd (none_some is)

-- ---- books that differ in their orders

own-same : (book : Book) (orders : List OrderRow) (household : ℕ) → own_orders book.accounts household orders ≡ own_orders book.accounts household book.orders → LeavesPart book (with_orders book orders) household
own-same book orders household same =
    leaves-part book (with_orders book orders) household (λ sheets. sheets) refl refl (λ number. refl)
    (λ sheets. ap (λ (rows : List OrderRow). replay_over (with_orders (own_book household book) rows) sheets) (sym same))

same-replay : (book : Book) (orders : List OrderRow) (sheets : List Sheet) → All (λ (sheet : Sheet). standing_on book.table.sheets orders sheet.number ≡ standing_on book.table.sheets book.orders sheet.number) sheets → replay_over (with_orders book orders) sheets ≡ replay_over book sheets
same-replay book orders sheets same =
    let other = with_orders book orders in
    fold-known (λ (sheet : Sheet). standing_on book.table.sheets orders sheet.number ≡ standing_on book.table.sheets book.orders sheet.number) (λ (d e : Day). d ≡ e)
    (day_after_sheet other (priced_orders other)) (day_after_sheet book (priced_orders book))
    (λ d e sheet here is.
    ap (λ rows. day_step other sheet rows d) (orders-standing other sheet ∙ (ap all_in_turn here ∙ sym (orders-standing book sheet)))
    ∙ (books_step_alike other book sheet (orders_on (priced_orders book) sheet) d (record {
      price = λ class moment. refl;
      front = λ class. refl;
      schedule = λ class. refl;
      counted = λ class. refl;
      household = λ account. refl;
      rate = λ class moment. refl;
    })
    ∙ ap (day_step book sheet (orders_on (priced_orders book) sheet)) is))
    first_day first_day sheets same refl

-- where the order isn't on a sheet, the others are all that are
others-there : (sheets : List Sheet) (named : ℕ × ℕ) (sheet : Sheet) (orders : List OrderRow) → list_any (λ row. is_named named.0 named.1 row.order && (stands row && is_priced_on sheet.number (priced_in sheets row))) orders ≡ false → standing_on sheets orders sheet.number ≡ standing_on sheets (filter (λ row. not (is_named named.0 named.1 row.order)) orders) sheet.number
others-there sheets named sheet orders none =
    sym
    (ap (filter on) (filter-swap stands keep orders)
    ∙ (filter-swap on keep (filter stands orders)
    ∙ filter-all keep (standing_on sheets orders sheet.number)
    (λ k d short. kept (get_or (standing_on sheets orders sheet.number) k d)
    (All-filter on (λ row. off row ≡ false) (filter stands orders) (All-filter stands (λ row. off row ≡ false) orders (none-all off orders none)) k d short)
    (All-filter on (λ row. stands row ≡ true) (filter stands orders) (filter_passes stands orders) k d short)
    (filter_passes on (filter stands orders) k d short))))
  where
    on : OrderRow → Bool
    on row = is_priced_on sheet.number (priced_in sheets row)

    keep : OrderRow → Bool
    keep row = not (is_named named.0 named.1 row.order)

    off : OrderRow → Bool
    off row = is_named named.0 named.1 row.order && (stands row && is_priced_on sheet.number (priced_in sheets row))

    by : (a b c : Bool) → (a && (b && c)) ≡ false → b ≡ true → c ≡ true → not a ≡ true
    by false b c e second third = refl
    by true b c e second third = absurd (true≢false (sym (and_from b c second third) ∙ e))

    kept : (row : OrderRow) → off row ≡ false → stands row ≡ true → on row ≡ true → keep row ≡ true
    kept row e second third = by (is_named named.0 named.1 row.order) (stands row) (on row) e second third

standing-same : (book : Book) (kind : EventKind) (named : ℕ × ℕ) → order_changed kind ≡ Some named → (place : ℕ) (sheet : Sheet) → is_on_sheet book named sheet ≡ false → is_on_sheet (with_orders book (orders_after place book.orders kind)) named sheet ≡ false → standing_on book.table.sheets (orders_after place book.orders kind) sheet.number ≡ standing_on book.table.sheets book.orders sheet.number
standing-same book kind named is place sheet before behind =
    others-there book.table.sheets named sheet (orders_after place book.orders kind) behind
    ∙ (ap (λ orders. standing_on book.table.sheets orders sheet.number) (orders-left (λ order. not (is_named named.0 named.1 order)) kind named is (λ order e. ap not e) place book.orders)
    ∙ sym (others-there book.table.sheets named sheet book.orders before))

-- ---- an event behind a lawful journal

of-other : (accounts : List AccountForm) (household : ℕ) (named : ℕ × ℕ) → is_of_household accounts household named.0 ≡ false → (order : Order) → is_named named.0 named.1 order ≡ true → is_of_household accounts household order.account ≡ false
of-other accounts household named off order e =
    ap (is_of_household accounts household) (eqb-true order.account named.0 (and_parts (order.account == named.0) (order.ref_no == named.1) e).0) ∙ off

behind : (journal : Journal) (event : Event) → TouchesNothing journal event → (book : Book) → book_after (length journal) (book_behind journal) event.moment event.kind ≡ book → book ≡ book_behind (with_event journal event)
behind journal event touches book is = sym is ∙ sym (book_goes_on_by journal event touches)

pub tried_event_reach : (journal : Journal) (event : Event) → TriedEventReach journal event
unfolding replay
tried_event_reach journal event before_lawful touches =
    let book = book_behind journal in
    let after = book_behind (with_event journal event) in
    let changed = λ (named : ℕ × ℕ) (is : order_changed event.kind ≡ Some named). behind journal event touches (with_orders book (orders_after (length journal) book.orders event.kind)) (order-book (length journal) book event.moment event.kind named is) in
    let over = λ (named : ℕ × ℕ) (is : order_changed event.kind ≡ Some named) (sheets : List Sheet) (none : IsOnNone book after named sheets).
    subst (λ b. replay_over b sheets ≡ replay_over book sheets) (changed named is)
    (same-replay book (orders_after (length journal) book.orders event.kind) sheets
    (λ k d short. standing-same book event.kind named is (length journal) (get_or sheets k d) (none k d short).0
    (subst (λ b. is_on_sheet b named (get_or sheets k d) ≡ false) (sym (changed named is)) (none k d short).1))) in
    record {
      price = λ form is household nowhere. subst (λ b. LeavesPart book b household)
          (behind journal event touches (book_with_price form book) (ap (book_after (length journal) book event.moment) is ∙ price-book (length journal) book event.moment form))
          (leaves-part book (book_with_price form book) household (map (sheet_as_corrected (form ∷ []))) refl refl
          (λ number. take-map (sheet_as_corrected (form ∷ [])) number book.table.sheets)
          (price-replay form (own_book household book) nowhere));
      rate = λ form is household nowhere. subst (λ b. LeavesPart book b household)
          (behind journal event touches (book_with_rate form book) (ap (book_after (length journal) book event.moment) is ∙ rate-book (length journal) book event.moment form))
          (leaves-part book (book_with_rate form book) household (λ sheets. sheets) refl refl (λ number. refl)
          (rate-replay form (own_book household book) nowhere));
      price_before = λ form is number early. subst (λ b. replay_to b number ≡ replay_to book number)
          (behind journal event touches (book_with_price form book) (ap (book_after (length journal) book event.moment) is ∙ price-book (length journal) book event.moment form))
          (price_leaves_before book form number early);
      rate_before = λ form is number early. subst (λ b. replay_to b number ≡ replay_to book number)
          (behind journal event touches (book_with_rate form book) (ap (book_after (length journal) book event.moment) is ∙ rate-book (length journal) book event.moment form))
          (rate_leaves_before book form number early);
      price_numbered = λ form is fixed of number early. subst (λ b. replay_to b number ≡ replay_to book number)
          (behind journal event touches (book_with_price form book) (ap (book_after (length journal) book event.moment) is ∙ price-book (length journal) book event.moment form))
          (price_leaves_before book form number (sheets-before journal before_lawful form.class form.moment fixed number of early));
      rate_numbered = λ form is fixed of number early. subst (λ b. replay_to b number ≡ replay_to book number)
          (behind journal event touches (book_with_rate form book) (ap (book_after (length journal) book event.moment) is ∙ rate-book (length journal) book event.moment form))
          (rate_leaves_before book form number (λ k d short. (sheets-before journal before_lawful form.class form.moment fixed number of early k d short).0));
      order = λ named is household off. subst (λ b. LeavesPart book b household) (changed named is)
          (own-same book (orders_after (length journal) book.orders event.kind) household
          (orders-left (λ order. is_of_household (accounts_of journal) household order.account) event.kind named is (of-other (accounts_of journal) household named off) (length journal) book.orders));
      before = λ named is number none.
          ap (λ sheets. replay_over after (take number sheets)) (sym (ap (λ (b : Book). b.table.sheets) (changed named is)))
          ∙ over named is (take number book.table.sheets) none;
      nowhere = λ named is none.
          ap (λ sheets. replay_over after sheets) (sym (ap (λ (b : Book). b.table.sheets) (changed named is))) ∙ over named is book.table.sheets none;
    }

pub event_reach : (journal : Journal) (event : Event) → LawfulEventReach journal event
event_reach journal event lawful = tried_event_reach journal event (lawful-before journal (event ∷ []) lawful) (touches_nothing journal event lawful)
