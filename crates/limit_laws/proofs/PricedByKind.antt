-- Every trade of a replay has the price of its kind on its sheet.
use Rattle.std.proofs.Common.{All, Bool, None, Some, [], ap, cond, false, refl, sym, true, ℕ, ◌+◌, ◌==◌, ◌∙◌, ◌∷◌, ◌≡◌}
use Rattle.std.proofs.lemmas.List.Elements.{All-append, All-cons, All-nil}
use Rattle.std.specs.Option.{option_map_or}
use Rattle.std.specs.Prelude.{Contains}
use Rattle.agent_events.specs.declared.order.OrderRow.{OrderRow}
use Rattle.agent_events.specs.declared.trade.Outcome.{Outcome}
use Rattle.agent_events.specs.declared.trade.Trade.{Trade}
use Rattle.agent_events.specs.declared.trade.TradeKind.{TradeKind}
use Rattle.forward_price.specs.declared.price_sheet.Sheet.{Sheet}
use Rattle.limit_laws.specs.TradePrices.{HasItsPrice, HasOfferingPrice, HasPriceBy, TradesHaveTheirPrices}
use Rattle.offering_price.specs.Accumulation.{bracket}
use Rattle.offering_price.specs.Purchase.{mils_bought, offering_price, split_at_price, split_of}
use Rattle.offering_price.specs.declared.purchase.Split.{Split}
use Rattle.register_laws.proofs.DayTurns.{IsBought, Turn, bought_by, elected_by, exchanged_by, position_asked, reached_by, settled_by, sold_by, trade_of, trades_added}
use Rattle.register_laws.proofs.PurchasesDivided.{rated-reaches}
use Rattle.register_laws.proofs.ReplayTurns.{All-one, AnyKey, AnyRow, TurnsKeep, any-all, replay-kept}
use Rattle.register_machine.proofs.FoundFacts.{own-class}
use Rattle.register_machine.specs.pricing.CorrectedBook.{Book, front_of}
use Rattle.register_machine.specs.pricing.OrderClasses.{class_of}
use Rattle.register_machine.specs.replay.Dividend.{cash_dividend_trade, dividend_trade}
use Rattle.register_machine.specs.replay.Letter.{letter_end_trade}
use Rattle.register_machine.specs.replay.Positions.{Register, position_at}
use Rattle.register_machine.specs.replay.Purchase.{amount_rated, credit_of}
use Rattle.register_machine.specs.replay.Replay.{orders_on, priced_orders}
use Rattle.register_machine.specs.replay.Trades.{nav_of, order_trade}

-- a split has the offering price of its net asset value and rate
split-price : (gross nav rate : ℕ) (split : Split) → split_of gross nav rate ≡ Some split → split.price ≡ offering_price nav rate
split-price gross nav rate split e =
    elim (mils_bought gross (offering_price nav rate) == 0) as (λ b. cond b None (Some (split_at_price gross nav rate (offering_price nav rate))) ≡ Some split → split.price ≡ offering_price nav rate) [
      | true ↦ λ h. absurd (none_some h)
      | false ↦ λ h. sym (ap (λ o. option_map_or (λ (s : Split). s.price) o 0) h)
    ] e
  where
    none_some : None ≡ Some split → ⊥
    none_some h = cc

-- a trade of this sheet, if its price is that of its outcome
on-sheet : (book : Book) (sheet : Sheet) (trade : Trade) → Contains book.table.sheets sheet → trade.sheet ≡ sheet.number → trade.moment ≡ sheet.moment → trade.day ≡ sheet.day → HasPriceBy trade.outcome book sheet trade → HasItsPrice book trade
on-sheet book sheet trade published number moment day price = record {
  sheet = sheet;
  published = published;
  number = number;
  moment = moment;
  day = day;
  price = price;
}

one-priced : (book : Book) (sheet : Sheet) (trade : Trade) → Contains book.table.sheets sheet → trade.sheet ≡ sheet.number → trade.moment ≡ sheet.moment → trade.day ≡ sheet.day → HasPriceBy trade.outcome book sheet trade → All (HasItsPrice book) (trade ∷ [])
one-priced book sheet trade published number moment day price =
    All-one (HasItsPrice book) trade (on-sheet book sheet trade published number moment day price)

bought-priced : (book : Book) (sheet : Sheet) (register : Register) (row : OrderRow) (gross : ℕ) (split : Split) → Contains book.table.sheets sheet → IsBought book sheet register row gross split → HasItsPrice book (bought_by sheet row gross split)
bought-priced book sheet register row gross split published is =
    let x = position_asked register row in
    let credit = credit_of book sheet register x.account in
    let amount = amount_rated x.letter (gross + credit) in
    let class = class_of row.order.body in
    let divided : split_of gross (nav_of sheet class) (bracket (front_of book class) amount) ≡ Some split =
    ap (λ c. split_of gross (nav_of sheet c) (bracket (front_of book c) amount)) (sym (own-class register row.order.account class)) ∙ is.divided in
    let priced : HasOfferingPrice book sheet (bought_by sheet row gross split) = record {
      amount = amount;
      reached = rated-reaches x.letter gross credit;
      price = split-price gross (nav_of sheet class) (bracket (front_of book class) amount) split divided;
    } in
    on-sheet book sheet (bought_by sheet row gross split) published refl refl refl priced

elected-priced : (book : Book) (sheet : Sheet) (row : OrderRow) (in_cash : Bool) → Contains book.table.sheets sheet → All (HasItsPrice book) (elected_by sheet row in_cash ∷ [])
elected-priced book sheet row true published =
    one-priced book sheet (elected_by sheet row true) published refl refl refl refl
elected-priced book sheet row false published =
    one-priced book sheet (elected_by sheet row false) published refl refl refl refl

-- the class of a position that was looked up is that of the order
sold-class : (sheet : Sheet) (register : Register) (row : OrderRow) → nav_of sheet (position_asked register row).class ≡ nav_of sheet (class_of row.order.body)
sold-class sheet register row =
    ap (nav_of sheet) (own-class register row.order.account (class_of row.order.body))

trades-priced : (book : Book) (sheet : Sheet) (register : Register) (turn : Turn book sheet register) → Contains book.table.sheets sheet → All (HasItsPrice book) (trades_added book sheet register turn)
trades-priced book sheet register Turn.Nothing published = All-nil (HasItsPrice book)
trades-priced book sheet register (Turn.Unfilled row why) published =
    one-priced book sheet (record (trade_of sheet row) { outcome = Outcome.Unfilled why }) published refl refl refl refl
trades-priced book sheet register (Turn.Bought row gross split is none_open) published =
    All-one (HasItsPrice book) (bought_by sheet row gross split)
    (bought-priced book sheet register row gross split published is)
trades-priced book sheet register (Turn.Noted row gross split letter is so) published =
    All-one (HasItsPrice book) (bought_by sheet row gross split)
    (bought-priced book sheet register row gross split published is)
trades-priced book sheet register (Turn.Reached row gross split letter is so) published =
    All-cons (HasItsPrice book) (bought_by sheet row gross split) (reached_by sheet register row ∷ [])
    (bought-priced book sheet register row gross split published is)
    (one-priced book sheet (reached_by sheet register row) published refl refl refl refl)
trades-priced book sheet register (Turn.Sold row asked is) published =
    one-priced book sheet (sold_by book sheet register row asked) published refl refl refl (sold-class sheet register row)
trades-priced book sheet register (Turn.Exchanged row to asked is) published =
    one-priced book sheet (exchanged_by sheet register row to asked) published refl refl refl (sold-class sheet register row)
trades-priced book sheet register (Turn.Elected row in_cash is) published =
    elected-priced book sheet row in_cash published
trades-priced book sheet register (Turn.Begun row amount is) published =
    one-priced book sheet (record (order_trade sheet row.order TradeKind.Letter) { cash = amount }) published refl refl refl refl
trades-priced book sheet register (Turn.Paid key cash) published =
    one-priced book sheet (cash_dividend_trade sheet (position_at register key) cash) published refl refl refl refl
trades-priced book sheet register (Turn.Reinvested key cash mils room) published =
    one-priced book sheet (dividend_trade sheet (position_at register key) cash mils) published refl refl refl refl
trades-priced book sheet register (Turn.Ended key letter is) published =
    one-priced book sheet (letter_end_trade sheet (position_at register key) (settled_by book sheet (position_at register key) letter)) published refl refl refl refl

turns-priced : (book : Book) → TurnsKeep book AnyRow AnyKey (λ done day. All (HasItsPrice book) day.trades)
turns-priced book = record {
  keys = λ done day kept. any-all day.register;
  turn = λ sheet done day turn published rows keys kept.
      All-append (HasItsPrice book) day.trades (trades_added book sheet day.register turn) kept
      (trades-priced book sheet day.register turn published);
}

pub trades_have_their_prices : (book : Book) → TradesHaveTheirPrices book
trades_have_their_prices book =
    replay-kept book AnyRow AnyKey (λ done day. All (HasItsPrice book) day.trades) (turns-priced book)
    (λ sheet. any-all (orders_on (priced_orders book) sheet)) (All-nil (HasItsPrice book))
