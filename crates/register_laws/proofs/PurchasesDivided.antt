-- Every purchase of a replay is the split of its order's gross, and proceeds and charge make the gross.
use Rattle.std.proofs.Common.{All, Bool, List, None, Option, Some, [], ap, arith, cond, false, filter, map, min, refl, sym, true, ℕ, ◌*◌, ◌+◌, ◌==◌, ◌∙◌, ◌∷◌, ◌≡◌, ◌≤◌}
use Rattle.std.proofs.lemmas.Bool.{eqb-true, true≢false}
use Rattle.std.proofs.lemmas.List.Elements.{All-append, All-cons, All-contains_itself, All-head, All-nil, All-tail}
use Rattle.std.specs.Option.{option_map_or}
use Rattle.std.specs.Prelude.{Contains}
use Rattle.agent_events.specs.declared.order.Body.{Body}
use Rattle.agent_events.specs.declared.order.OrderRow.{OrderRow}
use Rattle.forward_price.specs.declared.price_sheet.Sheet.{Sheet}
use Rattle.letter_of_intent.specs.declared.letter.Letter.{Letter}
use Rattle.money_units.specs.Rounding.{half}
use Rattle.offering_price.specs.Accumulation.{bracket}
use Rattle.offering_price.specs.Purchase.{split_at_price, mils_bought, offering_price, proceeds_of, split_of}
use Rattle.offering_price.specs.declared.purchase.Split.{Split}
use Rattle.register_laws.proofs.DayTurns.{IsBought, Turn, bought_by, elected_by, exchanged_by, position_asked, reached_by, rows_done, settled_by, sold_by, trade_of, trades_added}
use Rattle.register_laws.proofs.OrdersInTurn.{rows-on}
use Rattle.register_laws.proofs.ReplayTurns.{All-one, AnyKey, TurnsKeep, any-all, replay-kept}
use Rattle.register_laws.specs.Priced.{kind_of}
use Rattle.register_laws.specs.Trades.{GrossIsWhole, IsDone, IsPurchase, is_purchase}
use Rattle.register_machine.proofs.FoundFacts.{own-class}
use Rattle.register_machine.specs.pricing.CorrectedBook.{Book, front_of}
use Rattle.register_machine.specs.pricing.CorrectedOrders.{stands}
use Rattle.register_machine.specs.pricing.OrderClasses.{class_of}
use Rattle.register_machine.specs.replay.Dividend.{cash_dividend_trade, dividend_trade}
use Rattle.register_machine.specs.replay.Letter.{letter_end_trade}
use Rattle.register_machine.specs.replay.Positions.{Register, position_at}
use Rattle.register_machine.specs.replay.Purchase.{amount_rated, credit_of, purchase_trade}
use Rattle.register_machine.specs.replay.Replay.{Priced, is_priced_on, orders_on, priced_in, priced_orders, replay}
use Rattle.agent_events.specs.declared.trade.Outcome.{Outcome}
use Rattle.agent_events.specs.declared.trade.Trade.{Trade}
use Rattle.agent_events.specs.declared.trade.TradeKind.{TradeKind}
use Rattle.agent_events.specs.declared.trade.Why.{Why}
use Rattle.register_machine.specs.replay.Trades.{nav_of, order_trade}
use Rattle.share_lots.specs.Lots.{mils}

-- ---- the orders of a sheet

-- a standing order whose next price is that of the sheet of this number
pub record IsOrderOn (book : Book) (number : ℕ) (row : OrderRow) : Type 0 where
  pub ordered : Contains (filter stands book.orders) row
  pub priced : (priced_in book.table.sheets row).sheet ≡ Some number

pub priced-on : (found : Option ℕ) (number : ℕ) → option_map_or (λ sheet. sheet == number) found false ≡ true → found ≡ Some number
priced-on None number e = absurd (true≢false (sym e))
priced-on (Some own) number e = ap Some (eqb-true own number e)

pub chosen-on : (book : Book) (number : ℕ) (rows : List OrderRow) → All (Contains (filter stands book.orders)) rows → All (λ (q : Priced). IsOrderOn book number q.row) (filter (is_priced_on number) (map (priced_in book.table.sheets) rows))
chosen-on book number [] those = All-nil (λ (q : Priced). IsOrderOn book number q.row)
chosen-on book number (row ∷ rows) those =
    by_sheet (is_priced_on number (priced_in book.table.sheets row)) refl
    (chosen-on book number rows (All-tail (Contains (filter stands book.orders)) row rows those))
  where
    by_sheet : (is : Bool) → is_priced_on number (priced_in book.table.sheets row) ≡ is → All (λ (q : Priced). IsOrderOn book number q.row) (filter (is_priced_on number) (map (priced_in book.table.sheets) rows)) → All (λ (q : Priced). IsOrderOn book number q.row) (cond is (priced_in book.table.sheets row ∷ filter (is_priced_on number) (map (priced_in book.table.sheets) rows)) (filter (is_priced_on number) (map (priced_in book.table.sheets) rows)))
    by_sheet true is later =
        All-cons (λ (q : Priced). IsOrderOn book number q.row) (priced_in book.table.sheets row) (filter (is_priced_on number) (map (priced_in book.table.sheets) rows))
        (record {
          ordered = All-head (Contains (filter stands book.orders)) row rows those;
          priced = priced-on (priced_in book.table.sheets row).sheet number is;
        })
        later
    by_sheet false is later = later

pub orders-on : (book : Book) (sheet : Sheet) → All (IsOrderOn book sheet.number) (orders_on (priced_orders book) sheet)
orders-on book sheet =
    rows-on (IsOrderOn book sheet.number) (priced_orders book) sheet
    (chosen-on book sheet.number (filter stands book.orders) (All-contains_itself (filter stands book.orders)))

-- ---- purchases

-- proceeds and charge of a split make the gross
pub proceeds_within : (gross nav rate mils : ℕ) → proceeds_of gross nav rate mils ≤ gross
proceeds_within gross nav rate mils =
    elim (rate == 0) as (λ b. cond b gross (min gross (half (mils * nav) 1000)) ≤ gross) [
      | true ↦ omega arith
      | false ↦ omega arith
    ]

pub parts_make : (gross nav rate : ℕ) (split : Split) → split_of gross nav rate ≡ Some split → gross ≡ split.proceeds + split.charge
parts_make gross nav rate split e =
    elim (mils_bought gross (offering_price nav rate) == 0) as (λ b. cond b None (Some (split_at_price gross nav rate (offering_price nav rate))) ≡ Some split → gross ≡ split.proceeds + split.charge) [
      | true ↦ λ h. absurd (none_some h)
      | false ↦ λ h.
          let proceeds = ap (λ o. option_map_or (λ (s : Split). s.proceeds) o 0) h in
          let charge = ap (λ o. option_map_or (λ (s : Split). s.charge) o 0) h in
          omega (arith, proceeds, charge, proceeds_within gross nav rate (mils_bought gross (offering_price nav rate)))
    ] e
  where
    none_some : None ≡ Some split → ⊥
    none_some h = cc

-- the amount that is rated reaches the gross at least
pub rated-reaches : (letter : Option Letter) (gross more : ℕ) → gross ≤ amount_rated letter (gross + more)
rated-reaches None gross more = omega arith
rated-reaches (Some letter) gross more = omega arith

-- what is known of an order that is executed on a sheet
pub record Executes (book : Book) (sheet : Sheet) (row : OrderRow) (gross : ℕ) : Type 0 where
  pub published : Contains book.table.sheets sheet
  pub on : IsOrderOn book sheet.number row
  pub body : row.order.body ≡ Body.Buy (class_of row.order.body) gross

-- its trade is that of a purchase, if its cash and charge are those of its outcome
purchase_of : (book : Book) (sheet : Sheet) (row : OrderRow) (gross : ℕ) (trade : Trade) → Executes book sheet row gross → trade.account ≡ row.order.account → trade.ref_no ≡ row.order.ref_no → trade.class ≡ class_of row.order.body → trade.sheet ≡ sheet.number → IsDone book sheet gross trade trade.outcome → IsPurchase book trade
purchase_of book sheet row gross trade known account ref_no class number done = record {
  row = row;
  ordered = known.on.ordered;
  account = account;
  ref_no = ref_no;
  gross = gross;
  body = rw class known.body;
  sheet = sheet;
  published = known.published;
  number = number;
  priced = known.on.priced;
  done = done;
}

pub filled_purchase : (book : Book) (sheet : Sheet) (row : OrderRow) (gross amount : ℕ) (split : Split) → Executes book sheet row gross → gross ≤ amount → split_of gross (nav_of sheet (class_of row.order.body)) (bracket (front_of book (class_of row.order.body)) amount) ≡ Some split → IsPurchase book (purchase_trade (order_trade sheet row.order TradeKind.Buy) gross split)
filled_purchase book sheet row gross amount split known reached e =
    purchase_of book sheet row gross _ known refl refl refl refl
    (record {
      amount = amount;
      reached = reached;
      split = split;
      divided = e;
      cash = refl;
      parts = parts_make gross (nav_of sheet (class_of row.order.body)) (bracket (front_of book (class_of row.order.body)) amount) split e;
      charge = refl;
      price = refl;
      mils = refl;
    })

pub unfilled_purchase : (book : Book) (sheet : Sheet) (row : OrderRow) (gross : ℕ) (why : Why) → Executes book sheet row gross → IsPurchase book (record (order_trade sheet row.order TradeKind.Buy) { outcome = Outcome.Unfilled why })
unfilled_purchase book sheet row gross why known =
    purchase_of book sheet row gross _ known refl refl refl refl (record { cash = refl; charge = refl; price = refl; mils = refl })

bought-is : (book : Book) (sheet : Sheet) (register : Register) (row : OrderRow) (gross : ℕ) (split : Split) → Contains book.table.sheets sheet → IsOrderOn book sheet.number row → IsBought book sheet register row gross split → IsPurchase book (bought_by sheet row gross split)
bought-is book sheet register row gross split published on is =
    let x = position_asked register row in
    let credit = credit_of book sheet register x.account in
    let amount = amount_rated x.letter (gross + credit) in
    filled_purchase book sheet row gross amount split (record { published = published; on = on; body = is.body })
    (rated-reaches x.letter gross credit)
    (ap (λ c. split_of gross (nav_of sheet c) (bracket (front_of book c) amount)) (sym (own-class register row.order.account (class_of row.order.body))) ∙ is.divided)

-- an order whose kind is a purchase asks for one
asks-purchase : (body : Body) → is_purchase (kind_of body) ≡ true → (gross : ℕ) × (body ≡ Body.Buy (class_of body) gross)
asks-purchase (Body.Buy class gross) q = (gross, refl)
asks-purchase (Body.Sell class mils) q = absurd (true≢false (sym q))
asks-purchase (Body.SellCash class amount) q = absurd (true≢false (sym q))
asks-purchase (Body.SellAll class) q = absurd (true≢false (sym q))
asks-purchase (Body.Exchange class to mils) q = absurd (true≢false (sym q))
asks-purchase (Body.ExchangeAll class to) q = absurd (true≢false (sym q))
asks-purchase (Body.Letter class amount) q = absurd (true≢false (sym q))
asks-purchase (Body.Elect class true) q = absurd (true≢false (sym q))
asks-purchase (Body.Elect class false) q = absurd (true≢false (sym q))

unfilled-whole : (book : Book) (sheet : Sheet) (row : OrderRow) (why : Why) → Contains book.table.sheets sheet → IsOrderOn book sheet.number row → (kind : TradeKind) → kind_of row.order.body ≡ kind → GrossIsWhole book (record (order_trade sheet row.order kind) { outcome = Outcome.Unfilled why })
unfilled-whole book sheet row why published on TradeKind.Buy is = λ q.
    let asked = asks-purchase row.order.body (ap is_purchase is) in
    unfilled_purchase book sheet row asked.0 why (record { published = published; on = on; body = asked.1 })
unfilled-whole book sheet row why published on kind is = λ q. absurd (true≢false (sym q))

elected-whole : (book : Book) (sheet : Sheet) (row : OrderRow) (in_cash : Bool) → GrossIsWhole book (elected_by sheet row in_cash)
elected-whole book sheet row true = λ q. absurd (true≢false (sym q))
elected-whole book sheet row false = λ q. absurd (true≢false (sym q))

-- ---- all trades

-- of one trade that is no purchase
other-whole : (book : Book) (trade : Trade) → is_purchase trade.kind ≡ false → All (GrossIsWhole book) (trade ∷ [])
other-whole book trade other = All-one (GrossIsWhole book) trade (λ q. absurd (true≢false (sym q ∙ other)))

trades-whole : (book : Book) (sheet : Sheet) (register : Register) (turn : Turn book sheet register) → Contains book.table.sheets sheet → All (IsOrderOn book sheet.number) (rows_done book sheet register turn) → All (GrossIsWhole book) (trades_added book sheet register turn)
trades-whole book sheet register Turn.Nothing published on = All-nil (GrossIsWhole book)
trades-whole book sheet register (Turn.Unfilled row why) published on =
    All-one (GrossIsWhole book) (record (trade_of sheet row) { outcome = Outcome.Unfilled why })
    (unfilled-whole book sheet row why published (All-head (IsOrderOn book sheet.number) row [] on) (kind_of row.order.body) refl)
trades-whole book sheet register (Turn.Bought row gross split is none_open) published on =
    All-one (GrossIsWhole book) (bought_by sheet row gross split)
    (λ q. bought-is book sheet register row gross split published (All-head (IsOrderOn book sheet.number) row [] on) is)
trades-whole book sheet register (Turn.Noted row gross split letter is so) published on =
    All-one (GrossIsWhole book) (bought_by sheet row gross split)
    (λ q. bought-is book sheet register row gross split published (All-head (IsOrderOn book sheet.number) row [] on) is)
trades-whole book sheet register (Turn.Reached row gross split letter is so) published on =
    All-cons (GrossIsWhole book) (bought_by sheet row gross split) (reached_by sheet register row ∷ [])
    (λ q. bought-is book sheet register row gross split published (All-head (IsOrderOn book sheet.number) row [] on) is)
    (other-whole book (reached_by sheet register row) refl)
trades-whole book sheet register (Turn.Sold row asked is) published on =
    other-whole book (sold_by book sheet register row asked) refl
trades-whole book sheet register (Turn.Exchanged row to asked is) published on =
    other-whole book (exchanged_by sheet register row to asked) refl
trades-whole book sheet register (Turn.Elected row in_cash is) published on =
    All-one (GrossIsWhole book) (elected_by sheet row in_cash) (elected-whole book sheet row in_cash)
trades-whole book sheet register (Turn.Begun row amount is) published on =
    other-whole book (record (order_trade sheet row.order TradeKind.Letter) { cash = amount }) refl
trades-whole book sheet register (Turn.Paid key cash) published on =
    other-whole book (cash_dividend_trade sheet (position_at register key) cash) refl
trades-whole book sheet register (Turn.Reinvested key cash mils room) published on =
    other-whole book (dividend_trade sheet (position_at register key) cash mils) refl
trades-whole book sheet register (Turn.Ended key letter is) published on =
    other-whole book (letter_end_trade sheet (position_at register key) (settled_by book sheet (position_at register key) letter)) refl

turns-whole : (book : Book) → TurnsKeep book (λ sheet. IsOrderOn book sheet.number) AnyKey (λ done day. All (GrossIsWhole book) day.trades)
turns-whole book = record {
  keys = λ done day kept. any-all day.register;
  turn = λ sheet done day turn published on keys kept.
      All-append (GrossIsWhole book) day.trades (trades_added book sheet day.register turn) kept (trades-whole book sheet day.register turn published on);
}

pub all_whole : (book : Book) → All (GrossIsWhole book) (replay book).trades
all_whole book =
    replay-kept book (λ sheet. IsOrderOn book sheet.number) AnyKey (λ done day. All (GrossIsWhole book) day.trades) (turns-whole book)
    (orders-on book) (All-nil (GrossIsWhole book))
