-- A new order waits: it is on no sheet that was published before it. And an order that may be cancelled is on none.
use Rattle.std.proofs.Common.{All, Contains, List, None, Option, Some, [], ap, arith, cond, false, get_or, length, map, option_map, option_to_list, refl, subst, sym, true, ℕ, ◌&&◌, ◌+◌, ◌==◌, ◌∙◌, ◌∷◌, ◌≡◌, ◌≤◌}
use Rattle.std.proofs.lemmas.Bool.{and_from, and_parts, le-leb, or_parts, true≢false}
use Rattle.std.proofs.lemmas.List.Elements.{All-contains, All-contains_itself, All-map, All-weaker}
use Rattle.std.specs.List.{list_all, list_any}
use Rattle.std.specs.Option.{option_map_or}
use Rattle.std.specs.Prelude.{find, nat_lt, is_some, nat_le, option_and_then}
use Rattle.agent_events.specs.Events.{Event, event_of, order_request, placed_now, request_of}
use Rattle.agent_events.specs.declared.event.EventKind.{EventKind}
use Rattle.agent_events.specs.declared.event.Placed.{Placed}
use Rattle.agent_events.specs.declared.event.Source.{Source}
use Rattle.agent_events.specs.declared.order.Order.{Order}
use Rattle.agent_events.specs.declared.order.OrderRow.{OrderRow}
use Rattle.agent_events.specs.declared.reply.Refusal.{Refusal}
use Rattle.agent_events.specs.declared.request.CancelForm.{CancelForm}
use Rattle.agent_events.specs.declared.request.LineForm.{LineForm}
use Rattle.agent_events.specs.declared.request.Request.{Request}
use Rattle.agent_events.specs.declared.verdict.Caller.{Caller}
use Rattle.register_laws.proofs.ListedCalendars.{listed-calendar}
use Rattle.register_laws.proofs.OrderTurns.{some-same}
use Rattle.register_laws.proofs.SheetMore.{HasIfFound, best-has}
use Rattle.forward_price.proofs.OrderlyFacts.{any_from}
use Rattle.forward_price.proofs.PricingFacts.{lt_fact}
use Rattle.forward_price.specs.PriceTables.{is_earlier, is_sheet_at, number_at, prices_order}
use Rattle.forward_price.specs.Sheets.{lists_all, lists_class}
use Rattle.forward_price.specs.declared.price_sheet.Sheet.{Sheet}
use Rattle.register_laws.proofs.BooksGoOn.{book_goes_on}
use Rattle.register_laws.proofs.Comparisons.{eq-yes}
use Rattle.register_laws.proofs.Choosing.{not_when}
use Rattle.register_laws.proofs.DueAsReplied.{orders_are_due_as_replied, placed-same}
use Rattle.register_laws.proofs.ListParts.{any-agree}
use Rattle.register_laws.proofs.NothingBefore.{last-brought}
use Rattle.register_laws.proofs.OneTradeAnOrder.{one-named}
use Rattle.register_laws.proofs.RulesByName.{not_broken}
use Rattle.register_laws.proofs.SeenAlike.{any-by-find}
use Rattle.register_laws.proofs.TablesAreOrderly.{kept, priced_when_due_in}
use Rattle.register_laws.proofs.Tests.{any-of-map, find-any}
use Rattle.register_laws.specs.CorrectionReach.{IsOnNone, has_sheet_in, is_on_sheet}
use Rattle.register_laws.specs.Lawful.{IsBrought, book_behind, own_at}
use Rattle.register_laws.specs.OneEventMore.{book_after, struck_by}
use Rattle.register_laws.specs.Priced.{row_placed}
use Rattle.register_machine.specs.journal.Journals.{Journal, last_moment, with_event}
use Rattle.register_machine.specs.journal.Choices.{when}
use Rattle.register_machine.specs.journal.Kinds.{each_in, price_fix_in}
use Rattle.register_machine.specs.journal.Lawful.{IsLawful}
use Rattle.register_machine.specs.pricing.CorrectedBook.{Book, due_moment, sheet_of}
use Rattle.register_machine.specs.pricing.CorrectedOrders.{is_named, order_named, row_as_sent, stands}
use Rattle.register_machine.specs.pricing.CorrectedPrices.{sheet_as_corrected}
use Rattle.register_machine.specs.pricing.OrderClasses.{class_of, classes_in, target_of}
use Rattle.register_machine.specs.pricing.PublishedTable.{table_of}
use Rattle.register_machine.specs.replay.Replay.{is_priced_on, priced_in}
use Rattle.register_machine.specs.rules.InOrder.{Rule, broken_rule}
use Rattle.register_machine.specs.rules.Orders.{is_late, is_published_at, late_by, late_cancel_of, window_of}
use Rattle.register_machine.specs.run.Verdicts.{due_now}

-- ---- sheets of a lawful journal

-- the moment of each is past
pub past-sheets : (journal : Journal) → IsLawful journal → All (λ (s : Sheet). s.moment ≤ last_moment journal) (book_behind journal).table.sheets
past-sheets journal lawful =
    All-map (λ (s : Sheet). s.moment ≤ last_moment journal) (sheet_as_corrected (each_in price_fix_in journal)) (table_of journal).sheets (kept journal lawful).past

-- what prices an order is one of the sheets, lists its classes and comes behind its receipt
pub record Prices (sheets : List Sheet) (row : OrderRow) (s : Sheet) : Type 0 where
  among : Contains sheets s
  passes : prices_order (classes_in row.order.body) row.receipt s ≡ true

abbrev PricesIfFound : List Sheet → OrderRow → Option Sheet → Type 0
PricesIfFound sheets row found = HasIfFound (Prices sheets row) found

found-prices : (sheets : List Sheet) (row : OrderRow) (s : Sheet) → sheet_of sheets row ≡ Some s → Prices sheets row s
found-prices sheets row s is =
    subst (PricesIfFound sheets row) is
    (best-has (Prices sheets row) (prices_order (classes_in row.order.body) row.receipt) is_earlier None sheets
    (All-weaker (Contains sheets) (λ (x : Sheet). prices_order (classes_in row.order.body) row.receipt x ≡ true → Prices sheets row x)
    (λ x among passes. record { among = among; passes = passes }) sheets (All-contains_itself sheets)) tt)

-- ---- a new order

-- what is priced lists the order's class
first-listed : (sheets : List Sheet) (row : OrderRow) (s : Sheet) → Prices sheets row s → lists_class s.prices (class_of row.order.body) ≡ true
first-listed sheets row s prices =
    (and_parts (lists_class s.prices (class_of row.order.body)) (list_all (λ class. lists_class s.prices class) (option_to_list (target_of row.order.body)))
    (and_parts (nat_lt row.receipt s.moment) (lists_all s.prices (classes_in row.order.body)) prices.passes).1).0

-- the sheet of a pricing moment is found there
pub published-there : (journal : Journal) → IsLawful journal → (s : Sheet) (class : ℕ) → Contains (book_behind journal).table.sheets s → lists_class s.prices class ≡ true → is_published_at (book_behind journal) class s.moment ≡ true
published-there journal lawful s class among lists =
    ap (λ calendar. option_map_or (λ own. is_some (number_at (book_behind journal).table.sheets own s.moment)) calendar false) (listed-calendar journal lawful s class among lists)
    ∙ (numbered (find (is_sheet_at s.calendar s.moment) (book_behind journal).table.sheets)
    ∙ (find-any (is_sheet_at s.calendar s.moment) (book_behind journal).table.sheets
    ∙ any_from (is_sheet_at s.calendar s.moment) (book_behind journal).table.sheets s among
    (and_from (s.calendar == s.calendar) (s.moment == s.moment) (eq-yes s.calendar s.calendar refl) (eq-yes s.moment s.moment refl))))
  where
    numbered : (found : Option Sheet) → is_some (option_map (λ (x : Sheet). x.number) found) ≡ is_some found
    numbered None = refl
    numbered (Some x) = refl

-- an order of its own moment comes behind all sheets, and a dealer's line before the sheet of its due moment
waits-by : (journal : Journal) (now : ℕ) (caller : Caller) (source : Source) (order : Order) (receipt due : ℕ) → IsLawful journal → last_moment journal ≤ now → broken_rule (own_at journal now caller) (order_request source receipt order) ≡ None → event_of (order_request source receipt order) now (due_now (own_at journal now caller) (order_request source receipt order)) ≡ Some (EventKind.Order (record { order = order; source = source; receipt = receipt; due = due })) → due_moment (book_behind journal) (row_as_sent (length journal) receipt order) ≡ Some due → (s : Sheet) → sheet_of (book_behind journal).table.sheets (row_as_sent (length journal) receipt order) ≡ Some s → ⊥
waits-by journal now caller Source.Direct order receipt due lawful not_before clear brings is s found =
    let row = row_as_sent (length journal) receipt order in
    let sheets = (book_behind journal).table.sheets in
    let prices = found-prices sheets row s found in
    let later = lt_fact receipt s.moment (and_parts (nat_lt receipt s.moment) (lists_all s.prices (classes_in order.body)) prices.passes).0 in
    let past = All-contains (λ (x : Sheet). x.moment ≤ last_moment journal) sheets s (past-sheets journal lawful) prices.among in
    let received : now ≡ receipt = ap (λ (placed : Placed). placed.receipt) (placed-same (placed_now order now (due_now (own_at journal now caller) (Request.Order order))) (record { order = order; source = Source.Direct; receipt = receipt; due = due }) brings) in
    omega (arith, later, past, not_before, received)
waits-by journal now caller Source.Dealer order receipt due lawful not_before clear brings is s found =
    let row = row_as_sent (length journal) receipt order in
    let sheets = (book_behind journal).table.sheets in
    let situation = own_at journal now caller in
    let line : LineForm = record { receipt = receipt; order = order } in
    let prices = found-prices sheets row s found in
    let priced : due ≡ s.moment = some-same due s.moment (sym is ∙ priced_when_due_in journal lawful row s found) in
    let late : is_late situation line due ≡ false = not_when (is_late situation line due) (Refusal.LateForDealer due)
    (subst (λ found_due. late_by situation line found_due ≡ None) is (not_broken situation (Request.Line line) clear Rule.LateForDealer)) in
    let unpublished : is_published_at (book_behind journal) (class_of order.body) due ≡ false = (or_parts (is_published_at (book_behind journal) (class_of order.body) due) (nat_lt (due + window_of situation caller) now) late).0 in
    true≢false
    (sym (ap (is_published_at (book_behind journal) (class_of order.body)) priced ∙ published-there journal lawful s (class_of order.body) prices.among (first-listed sheets row s prices))
    ∙ unpublished)

none-found : (found : Option Sheet) → ((s : Sheet) → found ≡ Some s → ⊥) → found ≡ None
none-found None none = refl
none-found (Some s) none = absurd (none s refl)

pub order_waits : (journal : Journal) (event : Event) → IsLawful (with_event journal event) → (placed : Placed) → event.kind ≡ EventKind.Order placed → sheet_of (book_behind journal).table.sheets (row_placed journal placed) ≡ None
order_waits journal event lawful placed e =
    none-found (sheet_of (book_behind journal).table.sheets (row_placed journal placed))
    (waits-by journal event.moment last.1.caller placed.source placed.order placed.receipt placed.due last.0 last.1.not_before
    (subst (λ kind. broken_rule (own_at journal event.moment last.1.caller) (request_of kind) ≡ None) e last.1.clear)
    (subst (λ kind. event_of (request_of kind) event.moment (due_now (own_at journal event.moment last.1.caller) (request_of kind)) ≡ Some kind) e last.1.brings)
    ((orders_are_due_as_replied journal event lawful).of_order placed e).due)
  where
    last : IsLawful journal × IsBrought journal event
    last = last-brought journal event lawful

-- ---- an order that is cancelled

-- a standing order that a cancel may strike isn't on a sheet
cancelled-waits : (journal : Journal) (now : ℕ) → IsLawful journal → last_moment journal ≤ now → (row : OrderRow) → (caller : Caller) → late_cancel_of (own_at journal now caller) row ≡ None → (sheet : Sheet) → has_sheet_in (book_behind journal).table.sheets sheet row ≡ false
cancelled-waits journal now lawful not_before row caller clear sheet =
    elim (stands row) as (λ b. stands row ≡ b → (b && is_priced_on sheet.number (priced_in sheets row)) ≡ false) [
      | false ↦ λ off. refl
      | true ↦ λ on. by on (sheet_of sheets row) refl
    ] refl
  where
    sheets : List Sheet
    sheets = (book_behind journal).table.sheets

    not-yet : (s : Sheet) → stands row ≡ true → sheet_of sheets row ≡ Some s → ⊥
    not-yet s on found =
        let prices = found-prices sheets row s found in
        let past = All-contains (λ (x : Sheet). x.moment ≤ last_moment journal) sheets s (past-sheets journal lawful) prices.among in
        let come : s.moment ≤ now = omega (arith, past, not_before) in
        let due = priced_when_due_in journal lawful row s found in
        let none = not_when (stands row && nat_le s.moment now) (Refusal.CancelLate s.moment)
        (subst (λ found_due. option_and_then (λ due. when (stands row && nat_le due now) (Refusal.CancelLate due)) found_due ≡ None) due clear) in
        true≢false (sym (and_from (stands row) (nat_le s.moment now) on (le-leb s.moment now come)) ∙ none)

    by : stands row ≡ true → (found : Option Sheet) → sheet_of sheets row ≡ found → option_map_or (λ n. n == sheet.number) (option_map (λ (s : Sheet). s.number) found) false ≡ false
    by on None is = refl
    by on (Some s) is = absurd (not-yet s on is)

-- behind the cancel the order is struck
struck-on-none : (named : ℕ × ℕ) (sheets : List Sheet) (sheet : Sheet) (orders : List OrderRow) → list_any (λ row. is_named named.0 named.1 row.order && has_sheet_in sheets sheet row) (map (struck_by named) orders) ≡ false
struck-on-none named sheets sheet orders =
    any-of-map (λ row. is_named named.0 named.1 row.order && has_sheet_in sheets sheet row) (struck_by named) orders
    ∙ (any-agree (λ row. is_named named.0 named.1 (struck_by named row).order && has_sheet_in sheets sheet (struck_by named row)) (λ row. false) off orders
    ∙ nothing orders)
  where
    off : (row : OrderRow) → (is_named named.0 named.1 (struck_by named row).order && has_sheet_in sheets sheet (struck_by named row)) ≡ false
    off row =
        elim (is_named named.0 named.1 row.order) as (λ b. is_named named.0 named.1 row.order ≡ b → (is_named named.0 named.1 (cond b (record { place = row.place; receipt = row.receipt; struck = true; order = row.order }) row).order && has_sheet_in sheets sheet (cond b (record { place = row.place; receipt = row.receipt; struck = true; order = row.order }) row)) ≡ false) [
          | true ↦ λ on. ap (λ b. b && false) on
          | false ↦ λ out. ap (λ b. b && has_sheet_in sheets sheet row) out
        ] refl

    nothing : (rows : List OrderRow) → list_any (λ row. false) rows ≡ false
    nothing [] = refl
    nothing (row ∷ rows) = nothing rows

pub cancelled_on_none : (journal : Journal) (event : Event) → IsLawful (with_event journal event) → (form : CancelForm) → event.kind ≡ EventKind.Cancel form → (sheets : List Sheet) → IsOnNone (book_behind journal) (book_behind (with_event journal event)) (form.account, form.target) sheets
cancelled_on_none journal event lawful form e sheets k d short = (before (get_or sheets k d), behind (get_or sheets k d))
  where
    last : IsLawful journal × IsBrought journal event
    last = last-brought journal event lawful

    named : ℕ × ℕ
    named = (form.account, form.target)

    clear : option_and_then (late_cancel_of (own_at journal event.moment last.1.caller)) (order_named (book_behind journal).orders form.account form.target) ≡ None
    clear = not_broken (own_at journal event.moment last.1.caller) (Request.Cancel form) (subst (λ kind. broken_rule (own_at journal event.moment last.1.caller) (request_of kind) ≡ None) e last.1.clear) Rule.CancelLate

    before : (sheet : Sheet) → is_on_sheet (book_behind journal) named sheet ≡ false
    before sheet =
        any-by-find (λ (row : OrderRow). is_named form.account form.target row.order) (has_sheet_in (book_behind journal).table.sheets sheet) (book_behind journal).orders (one-named journal last.0 form.account form.target)
        ∙ by (order_named (book_behind journal).orders form.account form.target) clear
      where
        by : (found : Option OrderRow) → option_and_then (late_cancel_of (own_at journal event.moment last.1.caller)) found ≡ None → option_map_or (has_sheet_in (book_behind journal).table.sheets sheet) found false ≡ false
        by None none = refl
        by (Some row) none = cancelled-waits journal event.moment last.0 last.1.not_before row last.1.caller none sheet

    behind : (sheet : Sheet) → is_on_sheet (book_behind (with_event journal event)) named sheet ≡ false
    behind sheet =
        subst (λ (b : Book). is_on_sheet b named sheet ≡ false) (sym (book_goes_on journal event lawful))
        (subst (λ kind. is_on_sheet (book_after (length journal) (book_behind journal) event.moment kind) named sheet ≡ false) (sym e)
        (struck-on-none named (book_behind journal).table.sheets sheet (book_behind journal).orders))
