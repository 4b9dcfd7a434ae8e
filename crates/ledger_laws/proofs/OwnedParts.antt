-- The positions and the orders of a household's part are its own, by the facts of a sound book.
use Rattle.std.proofs.Common.{All, Bool, List, None, Option, Some, ap, arith, false, filter, get_or, length, option_map, option_to_list, refl, subst, sym, take, true, ℕ, ◌+◌, ◌<◌, ◌==◌, ◌∙◌, ◌≡◌}
use Rattle.std.proofs.lemmas.Bool.{and_parts, eqb-true, true≢false}
use Rattle.std.proofs.lemmas.List.{get_or_default}
use Rattle.std.proofs.lemmas.List.Elements.{All-filter, All-map, All-nil, All-weaker, filter_passes}
use Rattle.std.proofs.lemmas.List.Folds.{fold_along}
use Rattle.std.specs.List.{list_all}
use Rattle.std.specs.Option.{option_map_or}
use Rattle.std.specs.Prelude.{Contains, IfSome}
use Rattle.agent_events.specs.declared.order.Order.{Order}
use Rattle.agent_events.specs.declared.order.OrderRow.{OrderRow}
use Rattle.forward_price.proofs.PricingFacts.{next_sheet-next}
use Rattle.forward_price.specs.PriceTables.{AreNumbered, next_sheet}
use Rattle.forward_price.specs.Sheets.{lists_all, lists_class}
use Rattle.forward_price.specs.declared.price_sheet.Sheet.{Sheet}
use Rattle.household_fold.specs.Facts.{Known, book_of_facts, sheet_at_hand}
use Rattle.household_fold.specs.Households.{AreOrdersOf, IsOrderOf, IsOwnPlace}
use Rattle.checkpoint_replay.specs.Replays.{known_on}
use Rattle.ledger_laws.proofs.StepsAsPart.{AreOf, IsOneOf, own-step}
use Rattle.ledger_laws.specs.OwnedByAccounts.{SoundPartsAreOwned}
use Rattle.ledger_laws.specs.SoundBooks.{HaveTerms, NamesItsClasses, has_class_in}
use Rattle.ledger_laws.specs.PartsByFacts.{AreFactsOf, orders_of_part}
use Rattle.register_laws.proofs.AlikeDays.{BodyCounts}
use Rattle.register_laws.proofs.ListParts.{filter-swap}
use Rattle.register_laws.proofs.OrdersInTurn.{rows-on, rows-standing}
use Rattle.register_laws.proofs.ReplayedAlone.{owner-is, replayed_alone}
use Rattle.register_laws.proofs.StepsAlike.{Counts, PositionCounts, RowCounts}
use Rattle.register_laws.specs.AlikeBooks.{BooksAlike}
use Rattle.register_laws.specs.Households.{is_of_household, is_own_row, own_book, part_of}
use Rattle.register_machine.specs.journal.Kinds.{household_of}
use Rattle.register_machine.specs.pricing.CorrectedBook.{Book}
use Rattle.register_machine.specs.pricing.CorrectedOrders.{stands}
use Rattle.register_machine.specs.pricing.OrderClasses.{class_of, classes_in, target_of}
use Rattle.register_machine.specs.replay.Positions.{Position}
use Rattle.register_machine.specs.replay.Replay.{Priced, day_after_sheet, first_day, is_priced_on, orders_on, priced_in, priced_orders, replay_over, replay_to}
use Rattle.register_machine.specs.replay.Trades.{Day}

-- ---- positions

pub same-book : (book : Book) → BooksAlike book book
same-book book = record {
  price = λ class moment. refl;
  front = λ class. refl;
  schedule = λ class. refl;
  counted = λ class. refl;
  household = λ account. refl;
  rate = λ class moment. refl;
}

module _ (book : Book) (household : ℕ) (named : ℕ → Bool) (all : All (λ (row : OrderRow). BodyCounts (Counts named) row.order.body) (filter stands book.orders)) where
  -- the standing orders of the own book are own ones, in classes that count
  standing-count : All (RowCounts (is_of_household book.accounts household) named) (filter stands (own_book household book).orders)
  standing-count =
      let own = is_own_row (is_of_household book.accounts household) in
      let standing = filter stands book.orders in
      let mine = filter_passes own standing in
      let counts = All-filter own (λ (row : OrderRow). BodyCounts (Counts named) row.order.body) standing all in
      subst (All (RowCounts (is_of_household book.accounts household) named)) (sym (filter-swap stands own book.orders))
      (λ k d short. record { account = mine k d short; body = counts k d short })

  own-sheets : (sheets : List Sheet) → AreOf (is_of_household book.accounts household) named (replay_over (own_book household book) sheets).register
  own-sheets sheets =
      let own = own_book household book in
      let counts = is_of_household book.accounts household in
      (fold_along (day_after_sheet own (priced_orders own)) (day_after_sheet book (priced_orders own)) (IsOneOf counts named)
      (λ d e sheet is. own-step book book (same-book book) household named sheet (orders_on (priced_orders own) sheet) d e (rows-standing (RowCounts counts named) own sheet standing-count) is)
      first_day first_day sheets (record { same = refl; owned = All-nil (PositionCounts counts named) })).owned

  pub part-counts : (sheets : List Sheet) → AreOf (is_of_household book.accounts household) named (part_of book.accounts household (replay_over book sheets)).register
  part-counts sheets =
      subst (λ (day : Day). AreOf (is_of_household book.accounts household) named day.register) (sym (replayed_alone book household sheets)) (own-sheets sheets)

-- ---- the classes of orders

-- a test passed by all classes of an order is passed by its target
target-passes : (test : ℕ → Bool) (found : Option ℕ) → list_all test (option_to_list found) ≡ true → IfSome found (λ to. test to ≡ true)
target-passes test None e = tt
target-passes test (Some to) e = (and_parts (test to) true e).0

target-counts : (test : ℕ → Bool) (found : Option ℕ) → IfSome found (λ to. test to ≡ true) → (to : ℕ) → found ≡ Some to → test to ≡ true
target-counts test found passes to is = subst (λ o. IfSome o (λ to. test to ≡ true)) is passes

body-counts : (book : Book) (row : OrderRow) → NamesItsClasses book row → BodyCounts (Counts (has_class_in book)) row.order.body
body-counts book row named =
    let body = row.order.body in
    let parts = and_parts (has_class_in book (class_of body)) (list_all (has_class_in book) (option_to_list (target_of body))) named in
    record {
      own = parts.0;
      target = target-counts (has_class_in book) (target_of body) (target-passes (has_class_in book) (target_of body) parts.1);
    }

rows-count : (book : Book) → All (NamesItsClasses book) (filter stands book.orders) → All (λ (row : OrderRow). BodyCounts (Counts (has_class_in book)) row.order.body) (filter stands book.orders)
rows-count book named =
    All-weaker (NamesItsClasses book) (λ (row : OrderRow). BodyCounts (Counts (has_class_in book)) row.order.body) (body-counts book) (filter stands book.orders) named

-- ---- the sheets of orders

-- a sheet among numbered ones is the one in the place before its number
numbered-there : (sheets : List Sheet) (sheet : Sheet) (place : ℕ) (d : Sheet) → AreNumbered sheets → place < length sheets → Contains sheets sheet → sheet.number ≡ (get_or sheets place d).number → sheet ≡ get_or sheets place d
numbered-there sheets sheet place d are short (k, within, e) same =
    let own : sheet.number ≡ k + 1 = sym (ap (λ (s : Sheet). s.number) e) ∙ are.each k sheet within in
    let at : k ≡ place = omega (arith, own, same, are.each place d short) in
    sym e ∙ (ap (λ n. get_or sheets n sheet) at ∙ get_or_default sheets place sheet d short)

-- an order priced on a sheet has its classes listed there
lists-own : (sheets : List Sheet) (place : ℕ) (d : Sheet) (row : OrderRow) → AreNumbered sheets → place < length sheets → is_priced_on (get_or sheets place d).number (priced_in sheets row) ≡ true → lists_all (get_or sheets place d).prices (classes_in row.order.body) ≡ true
lists-own sheets place d row are short priced =
    by (next_sheet sheets (classes_in row.order.body) row.receipt) refl priced
  where
    by : (found : Option Sheet) → next_sheet sheets (classes_in row.order.body) row.receipt ≡ found → option_map_or (λ number. number == (get_or sheets place d).number) (option_map (λ (sheet : Sheet). sheet.number) found) false ≡ true → lists_all (get_or sheets place d).prices (classes_in row.order.body) ≡ true
    by None is e = absurd (true≢false (sym e))
    by (Some sheet) is e =
        let next = next_sheet-next sheets (classes_in row.order.body) row.receipt sheet is in
        let same = numbered-there sheets sheet place d are short next.among (eqb-true sheet.number (get_or sheets place d).number e) in
        subst (λ (s : Sheet). lists_all s.prices (classes_in row.order.body) ≡ true) same next.lists

rows-listed : (book : Book) (place : ℕ) (d : Sheet) → AreNumbered book.table.sheets → place < length book.table.sheets → All (λ (row : OrderRow). lists_all (get_or book.table.sheets place d).prices (classes_in row.order.body) ≡ true) (orders_on (priced_orders book) (get_or book.table.sheets place d))
rows-listed book place d are short =
    let sheets = book.table.sheets in
    let sheet = get_or sheets place d in
    let on = is_priced_on sheet.number in
    let Lists : Priced → Type 0 = λ priced. on priced ≡ true → lists_all sheet.prices (classes_in priced.row.order.body) ≡ true in
    let each : All Lists (priced_orders book) = All-map Lists (priced_in sheets) (filter stands book.orders) (λ k e within. lists-own sheets place d (get_or (filter stands book.orders) k e) are short) in
    rows-on (λ (row : OrderRow). lists_all sheet.prices (classes_in row.order.body) ≡ true) (priced_orders book) sheet
    (λ k e within. All-filter on Lists (priced_orders book) each k e within (filter_passes on (priced_orders book) k e within))

-- ---- by the facts

own-place : (known : Known) (book : Book) (household : ℕ) → AreFactsOf known book → HaveTerms known book → (p : Position) → PositionCounts (is_of_household book.accounts household) (has_class_in book) p → IsOwnPlace known household p.account p.class
own-place known book household facts have p is = record {
  owner = facts.alike.household p.account ∙ owner-is (household_of book.accounts p.account) household is.account;
  terms = have p.class is.class;
}

own-order : (known : Known) (book : Book) (household : ℕ) (sheet : Sheet) → BooksAlike (book_of_facts known) book → sheet_at_hand known ≡ sheet → (order : Order) → is_of_household book.accounts household order.account ≡ true → lists_all sheet.prices (classes_in order.body) ≡ true → IsOrderOf known household order
own-order known book household sheet alike at_hand order mine lists =
    let on_hand = subst (λ (s : Sheet). lists_all s.prices (classes_in order.body) ≡ true) (sym at_hand) lists in
    let listed = lists_class (sheet_at_hand known).prices in
    let parts = and_parts (listed (class_of order.body)) (list_all listed (option_to_list (target_of order.body))) on_hand in
    record {
      owner = alike.household order.account ∙ owner-is (household_of book.accounts order.account) household mine;
      listed = parts.0;
      target = target-passes listed (target_of order.body) parts.1;
    }

own-orders : (known : Known) (book : Book) (household place : ℕ) (d : Sheet) → AreFactsOf known book → AreNumbered book.table.sheets → place < length book.table.sheets → AreOrdersOf (known_on known (place + 1)) household (orders_of_part book household (get_or book.table.sheets place d))
own-orders known book household place d facts are short =
    let sheet = get_or book.table.sheets place d in
    let on = known_on known (place + 1) in
    let own = is_own_row (is_of_household book.accounts household) in
    let rows = orders_on (priced_orders book) sheet in
    All-map (IsOrderOf on household) (λ (row : OrderRow). row.order) (filter own rows)
    (λ k e within.
    own-order on book household sheet facts.alike (facts.at_hand place d short) (get_or (filter own rows) k e).order (filter_passes own rows k e within)
    (All-filter own (λ (row : OrderRow). lists_all sheet.prices (classes_in row.order.body) ≡ true) rows (rows-listed book place d are short) k e within))

pub owned_by_accounts : (known : Known) (book : Book) (household : ℕ) → SoundPartsAreOwned known book household
owned_by_accounts known book household sound facts have = record {
  positions = λ number.
      All-weaker (PositionCounts (is_of_household book.accounts household) (has_class_in book)) (λ (p : Position). IsOwnPlace known household p.account p.class)
      (own-place known book household facts have) (part_of book.accounts household (replay_to book number)).register
      (part-counts book household (has_class_in book) (rows-count book sound.orders) (take number book.table.sheets));
  orders = λ place d short. own-orders known book household place d facts sound.orderly.numbered short;
}
