-- A replay reads no places of orders: with all of them left out it is the same.
use Rattle.std.proofs.Common.{List, [], ap, filter, map, nat_le, nat_lt, refl, sym, ◌++◌, ◌∙◌, ◌∷◌, ◌≡◌}
use Rattle.std.proofs.lemmas.List.{map-append}
use Rattle.std.proofs.lemmas.List.Folds.{fold-map, fold_along}
use Rattle.agent_events.specs.declared.order.OrderRow.{OrderRow}
use Rattle.forward_price.specs.declared.price_sheet.Sheet.{Sheet}
use Rattle.register_laws.proofs.ListParts.{filter-map, map-swap}
use Rattle.register_laws.proofs.StepsAlike.{books_step_alike}
use Rattle.register_machine.specs.pricing.CorrectedBook.{Book}
use Rattle.register_machine.specs.pricing.CorrectedOrders.{stands}
use Rattle.register_machine.specs.replay.DayStep.{day_after_order, day_step}
use Rattle.register_machine.specs.replay.Dividend.{day_after_dividends}
use Rattle.register_machine.specs.replay.Letter.{day_after_letter_ends}
use Rattle.register_machine.specs.replay.Replay.{Priced, all_in_turn, day_after_sheet, first_day, in_turn, is_priced_on, orders_on, priced_in, priced_orders, replay_over}
use Rattle.register_machine.specs.replay.Trades.{Day}

abbrev pub unplaced : OrderRow → OrderRow
unplaced row = record { place = 0; receipt = row.receipt; struck = row.struck; order = row.order }

abbrev pub unplaced_book : Book → Book
unplaced_book book = record {
  table = book.table;
  classes = book.classes;
  accounts = book.accounts;
  orders = map unplaced book.orders;
  rates = book.rates;
}

abbrev priced_unplaced : Priced → Priced
priced_unplaced priced = record { row = unplaced priced.row; sheet = priced.sheet }

turn-unplaced : (row : OrderRow) (rows : List OrderRow) → in_turn (unplaced row) (map unplaced rows) ≡ map unplaced (in_turn row rows)
turn-unplaced row rows =
    let less = λ (other : OrderRow). nat_le other.receipt row.receipt in
    let more = λ (other : OrderRow). nat_lt row.receipt other.receipt in
    ap (λ ys. ys ++ unplaced row ∷ filter more (map unplaced rows)) (filter-map less unplaced rows)
    ∙ (ap (λ ys. map unplaced (filter less rows) ++ unplaced row ∷ ys) (filter-map more unplaced rows)
    ∙ sym (map-append unplaced (filter less rows) (row ∷ filter more rows)))

turns-unplaced : (rows : List OrderRow) → all_in_turn (map unplaced rows) ≡ map unplaced (all_in_turn rows)
turns-unplaced rows =
    fold-map (λ ordered row. in_turn row ordered) unplaced [] rows
    ∙ fold_along (λ ordered row. in_turn (unplaced row) ordered) (λ ordered row. in_turn row ordered) (λ one other. one ≡ map unplaced other)
    (λ one other row is. ap (in_turn (unplaced row)) is ∙ turn-unplaced row other) [] [] rows refl

orders-unplaced : (book : Book) (sheet : Sheet) → orders_on (priced_orders (unplaced_book book)) sheet ≡ map unplaced (orders_on (priced_orders book) sheet)
orders-unplaced book sheet =
    let price = priced_in book.table.sheets in
    let on = is_priced_on sheet.number in
    let row_of = λ (priced : Priced). priced.row in
    let standing = filter stands book.orders in
    let listed : priced_orders (unplaced_book book) ≡ map priced_unplaced (priced_orders book) =
    ap (map price) (filter-map stands unplaced book.orders) ∙ sym (map-swap priced_unplaced price unplaced (λ row. refl) standing) in
    ap (λ priced. all_in_turn (map row_of (filter on priced))) listed
    ∙ (ap (λ priced. all_in_turn (map row_of priced)) (filter-map on priced_unplaced (priced_orders book))
    ∙ (ap all_in_turn (sym (map-swap unplaced row_of priced_unplaced (λ priced. refl) (filter on (priced_orders book))))
    ∙ turns-unplaced (map row_of (filter on (priced_orders book)))))

step-unplaced : (book : Book) (sheet : Sheet) (rows : List OrderRow) (day : Day) → day_step book sheet (map unplaced rows) day ≡ day_step book sheet rows day
unfolding day_step
step-unplaced book sheet rows day =
    fold-map (day_after_order book sheet) unplaced (day_after_letter_ends book sheet (day_after_dividends book sheet day)) rows

pub replay-unplaced : (book : Book) (sheets : List Sheet) → replay_over (unplaced_book book) sheets ≡ replay_over book sheets
replay-unplaced book sheets =
    fold_along (day_after_sheet (unplaced_book book) (priced_orders (unplaced_book book))) (day_after_sheet book (priced_orders book)) (λ one other. one ≡ other)
    (λ one other sheet is.
    ap (λ rows. day_step (unplaced_book book) sheet rows one) (orders-unplaced book sheet)
    ∙ (books_step_alike (unplaced_book book) book sheet (map unplaced (orders_on (priced_orders book) sheet)) one (record {
      price = λ class moment. refl;
      front = λ class. refl;
      schedule = λ class. refl;
      counted = λ class. refl;
      household = λ account. refl;
      rate = λ class moment. refl;
    })
    ∙ (step-unplaced book sheet (orders_on (priced_orders book) sheet) one
    ∙ ap (day_step book sheet (orders_on (priced_orders book) sheet)) is)))
    first_day first_day sheets refl
