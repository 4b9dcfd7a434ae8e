-- What a sheet adds to the trades: each trade has the moment and the date of its sheet.
use Rattle.std.proofs.Common.{All, Bool, List, None, Option, Some, [], ap, append-nil, append_assoc, cond, false, fold, not, refl, sym, true, ℕ, ◌*◌, ◌++◌, ◌==◌, ◌∙◌, ◌∷◌, ◌≡◌}
use Rattle.std.proofs.lemmas.List.Elements.{All-append, All-cons, All-nil}
use Rattle.agent_events.specs.declared.order.Body.{Body}
use Rattle.agent_events.specs.declared.order.Order.{Order}
use Rattle.agent_events.specs.declared.order.OrderRow.{OrderRow}
use Rattle.agent_events.specs.declared.trade.Outcome.{Outcome}
use Rattle.agent_events.specs.declared.trade.Trade.{Trade}
use Rattle.agent_events.specs.declared.trade.TradeKind.{TradeKind}
use Rattle.agent_events.specs.declared.trade.Why.{Why}
use Rattle.contingent_charge.specs.DeferredCharge.{charge_of_pieces}
use Rattle.dividend_reinvest.specs.declared.payment.Payment.{Payment}
use Rattle.dividend_reinvest.specs.declared.payment.Payment.TheVariants as pays
use Rattle.forward_price.specs.declared.price_sheet.Sheet.{Sheet}
use Rattle.fund_exchange.specs.Exchange.{transfer_of}
use Rattle.letter_of_intent.specs.Letters.{new_letter, note_of_purchase, settlement}
use Rattle.letter_of_intent.specs.declared.letter.Letter.{Letter}
use Rattle.money_units.specs.Rounding.{half}
use Rattle.offering_price.specs.Purchase.{split_of}
use Rattle.offering_price.specs.declared.purchase.Split.{Split}
use Rattle.share_lots.specs.Lots.{Added, shares_added, held_total}
use Rattle.share_lots.specs.Taking.{pieces}
use Rattle.register_machine.specs.journal.Choices.{first_some, when}
use Rattle.register_machine.specs.pricing.CorrectedBook.{Book, front_of, schedule_of}
use Rattle.register_machine.specs.pricing.DividendRates.{Rates, rate_at}
use Rattle.register_machine.specs.pricing.OrderClasses.{class_of}
use Rattle.register_machine.specs.replay.DayStep.{day_after_body, day_after_election, day_after_order, day_after_orders, day_step}
use Rattle.register_machine.specs.replay.Dividend.{cash_dividend_trade, day_after_class, day_after_dividend, day_after_dividends, day_after_payment, day_after_rate, dividend_trade, keys_of_class, payment_on}
use Rattle.register_machine.specs.replay.Exchange.{day_after_exchange, exchange_reasons, exchange_trade, position_with_pieces}
use Rattle.register_machine.specs.replay.Letter.{day_after_end_of, day_after_letter, day_after_letter_end, day_after_letter_ends, day_after_settlement, keys_of_letters_over, letter_end_trade}
use Rattle.register_machine.specs.replay.Positions.{Position, PositionKey, has_room, position_at, position_of, with_holding}
use Rattle.register_machine.specs.replay.Purchase.{credit_of, day_after_purchase, day_after_reaching, day_at_split, day_if_reached, day_with_lot, position_after_note, purchase_rate, purchase_trade}
use Rattle.register_machine.specs.replay.Redemption.{day_after_redemption, day_after_redemption_for, day_after_sale, loose_of, position_less, redemption_trade, short_of}
use Rattle.register_machine.specs.replay.Trades.{Day, day_after_trade, day_unless, nav_of, order_trade, plain_trade, with_position}
use Rattle.std.specs.Prelude.{is_some}

pub record IsOn (sheet : Sheet) (trade : Trade) : Type 0 where
  pub moment : trade.moment ≡ sheet.moment
  pub day : trade.day ≡ sheet.day

pub record Grows (sheet : Sheet) (day after : Day) : Type 0 where
  pub new : List Trade
  pub grown : after.trades ≡ day.trades ++ new
  pub own : All (IsOn sheet) new

stays : (sheet : Sheet) (day : Day) → Grows sheet day day
stays sheet day = record { new = []; grown = sym (append-nil day.trades); own = All-nil (IsOn sheet) }

one_more : (sheet : Sheet) (day after : Day) (trade : Trade) → IsOn sheet trade → after.trades ≡ day.trades ++ trade ∷ [] → Grows sheet day after
one_more sheet day after trade on is = record { new = trade ∷ []; grown = is; own = All-cons (IsOn sheet) trade [] on (All-nil (IsOn sheet)) }

further : (sheet : Sheet) (day between after : Day) → Grows sheet day between → Grows sheet between after → Grows sheet day after
further sheet day between after first second = record {
  new = first.new ++ second.new;
  grown = second.grown ∙ (ap (λ (trades : List Trade). trades ++ second.new) first.grown ∙ append_assoc day.trades first.new second.new);
  own = All-append (IsOn sheet) first.new second.new first.own second.own;
}

over_all : {X : Type 0} (sheet : Sheet) (f : Day → X → Day) → ((day : Day) (x : X) → Grows sheet day (f day x)) → (xs : List X) (day : Day) → Grows sheet day (fold f day xs)
over_all sheet f step [] day = stays sheet day
over_all sheet f step (x ∷ xs) day = further sheet day (f day x) (fold f (f day x) xs) (step day x) (over_all sheet f step xs (f day x))

unless : (sheet : Sheet) (reason : Option Why) (day : Day) (trade : Trade) (done : Day) → IsOn sheet trade → Grows sheet day done → Grows sheet day (day_unless reason day trade done)
unless sheet None day trade done on grows = grows
unless sheet (Some why) day trade done on grows =
    one_more sheet day (day_unless (Some why) day trade done) (record trade { outcome = Outcome.Unfilled why }) (record { moment = on.moment; day = on.day }) refl

-- ---- orders

order_on : (sheet : Sheet) (order : Order) (kind : TradeKind) → IsOn sheet (order_trade sheet order kind)
order_on sheet order kind = record { moment = refl; day = refl }

if_reached : (sheet : Sheet) (day after : Day) (position : Position) (reached : Bool) → Grows sheet day after → Grows sheet day (day_if_reached reached sheet position after)
if_reached sheet day after position true grows =
    further sheet day after (day_after_reaching sheet position after) grows
    (one_more sheet after (day_after_reaching sheet position after) (plain_trade sheet position.account position.class TradeKind.LetterReached) (record { moment = refl; day = refl }) refl)
if_reached sheet day after position false grows = grows

with_lot : (sheet : Sheet) (day : Day) (position : Position) (lot : Added) (letter : Option Letter) (gross : ℕ) (split : Split) (trade : Trade) → IsOn sheet trade → Grows sheet day (day_with_lot sheet day position lot letter gross split trade)
with_lot sheet day position lot None gross split trade on =
    one_more sheet day (day_after_trade day (with_holding position lot.holding) trade) trade on refl
with_lot sheet day position lot (Some letter) gross split trade on =
    let kept = position_after_note position lot letter gross split in
    if_reached sheet day (day_after_trade day kept trade) kept (note_of_purchase letter gross split.price split.mils).reached
    (one_more sheet day (day_after_trade day kept trade) trade on refl)

at_split : (sheet : Sheet) (day : Day) (position : Position) (gross : ℕ) (split : Option Split) (trade : Trade) → IsOn sheet trade → Grows sheet day (day_at_split sheet day position gross split trade)
at_split sheet day position gross None trade on = unless sheet (first_some (Some Why.TooSmall ∷ [])) day trade day on (stays sheet day)
at_split sheet day position gross (Some split) trade on =
    let lot = shares_added position.holding sheet.day split.mils gross false in
    let filled = purchase_trade trade gross split in
    unless sheet (first_some (when (not (has_room position.holding split.mils gross)) Why.Ceiling ∷ [])) day trade
    (day_with_lot sheet day position lot position.letter gross split filled) on
    (with_lot sheet day position lot position.letter gross split filled (record { moment = on.moment; day = on.day }))

purchase_grows : (book : Book) (sheet : Sheet) (day : Day) (order : Order) (gross : ℕ) → Grows sheet day (day_after_purchase book sheet day order gross)
purchase_grows book sheet day order gross =
    let position = position_of day.register order.account (class_of order.body) in
    at_split sheet day position gross
    (split_of gross (nav_of sheet position.class) (purchase_rate book sheet day.register position gross))
    (order_trade sheet order TradeKind.Buy) (order_on sheet order TradeKind.Buy)

sale_grows : (book : Book) (sheet : Sheet) (day : Day) (position : Position) (asked : ℕ) (trade : Trade) → IsOn sheet trade → Grows sheet day (day_after_sale book sheet day position asked trade)
sale_grows book sheet day position asked trade on =
    let nav = nav_of sheet position.class in
    one_more sheet day (day_after_sale book sheet day position asked trade)
    (redemption_trade trade nav asked (charge_of_pieces (pieces asked position.holding.lots) nav sheet.day (schedule_of book position.class)))
    (record { moment = on.moment; day = on.day }) refl

redemption_grows : (book : Book) (sheet : Sheet) (day : Day) (order : Order) (asked : ℕ) → Grows sheet day (day_after_redemption book sheet day order asked)
redemption_grows book sheet day order asked =
    let position = position_of day.register order.account (class_of order.body) in
    let trade = order_trade sheet order TradeKind.Sell in
    unless sheet (first_some (short_of position.holding asked ∷ [])) day trade (day_after_sale book sheet day position asked trade)
    (order_on sheet order TradeKind.Sell) (sale_grows book sheet day position asked trade (order_on sheet order TradeKind.Sell))

redemption_for_grows : (book : Book) (sheet : Sheet) (day : Day) (order : Order) (amount : ℕ) → Grows sheet day (day_after_redemption_for book sheet day order amount)
redemption_for_grows book sheet day order amount =
    let position = position_of day.register order.account (class_of order.body) in
    let asked = half (1000 * amount) (nav_of sheet position.class) in
    let trade = order_trade sheet order TradeKind.Sell in
    unless sheet (first_some (when (asked == 0) Why.TooSmall ∷ short_of position.holding asked ∷ [])) day trade
    (day_after_sale book sheet day position asked trade)
    (order_on sheet order TradeKind.Sell) (sale_grows book sheet day position asked trade (order_on sheet order TradeKind.Sell))

exchange_grows : (sheet : Sheet) (day : Day) (order : Order) (to asked : ℕ) → Grows sheet day (day_after_exchange sheet day order to asked)
exchange_grows sheet day order to asked =
    let position = position_of day.register order.account (class_of order.body) in
    let target = position_of day.register order.account to in
    let nav = nav_of sheet position.class in
    let moved = transfer_of nav (nav_of sheet to) (pieces asked position.holding.lots) in
    let trade = order_trade sheet order TradeKind.Exchange in
    let done = day_after_trade (with_position day (position_less position asked)) (position_with_pieces target moved.pieces) (exchange_trade trade nav asked moved) in
    unless sheet (first_some (exchange_reasons position target asked moved)) day trade done (order_on sheet order TradeKind.Exchange)
    (one_more sheet day done (exchange_trade trade nav asked moved) (record { moment = refl; day = refl }) refl)

letter_grows : (book : Book) (sheet : Sheet) (day : Day) (order : Order) (amount : ℕ) → Grows sheet day (day_after_letter book sheet day order amount)
letter_grows book sheet day order amount =
    let position = position_of day.register order.account (class_of order.body) in
    let trade = order_trade sheet order TradeKind.Letter in
    let start = credit_of book sheet day.register order.account in
    let done = day_after_trade day (record position { letter = Some (new_letter amount sheet.day start (front_of book position.class)) }) (record trade { cash = amount }) in
    unless sheet (first_some (when (is_some position.letter) Why.LetterOpen ∷ [])) day trade done (order_on sheet order TradeKind.Letter)
    (one_more sheet day done (record trade { cash = amount }) (record { moment = refl; day = refl }) refl)

election_grows : (sheet : Sheet) (day : Day) (order : Order) (in_cash : Bool) → Grows sheet day (day_after_election sheet day order in_cash)
election_grows sheet day order in_cash =
    let kind = cond in_cash TradeKind.ElectCash TradeKind.ElectShares in
    one_more sheet day (day_after_election sheet day order in_cash) (order_trade sheet order kind) (order_on sheet order kind) refl

body_grows : (book : Book) (sheet : Sheet) (day : Day) (order : Order) (body : Body) → Grows sheet day (day_after_body book sheet day order body)
body_grows book sheet day order (Body.Buy class gross) = purchase_grows book sheet day order gross
body_grows book sheet day order (Body.Sell class mils) = redemption_grows book sheet day order mils
body_grows book sheet day order (Body.SellCash class amount) = redemption_for_grows book sheet day order amount
body_grows book sheet day order (Body.SellAll class) = redemption_grows book sheet day order (loose_of day order)
body_grows book sheet day order (Body.Exchange class to mils) = exchange_grows sheet day order to mils
body_grows book sheet day order (Body.ExchangeAll class to) = exchange_grows sheet day order to (loose_of day order)
body_grows book sheet day order (Body.Letter class amount) = letter_grows book sheet day order amount
body_grows book sheet day order (Body.Elect class in_cash) = election_grows sheet day order in_cash

-- ---- letters that end, and dividends

end_grows : (book : Book) (sheet : Sheet) (day : Day) (position : Position) (letter : Option Letter) → Grows sheet day (day_after_end_of book sheet day position letter)
end_grows book sheet day position None = stays sheet day
end_grows book sheet day position (Some letter) =
    let settled = settlement (front_of book position.class) letter (nav_of sheet position.class) (held_total position.holding) in
    one_more sheet day (day_after_settlement sheet day position settled) (letter_end_trade sheet position settled) (record { moment = refl; day = refl }) refl

letter_end_grows : (book : Book) (sheet : Sheet) (day : Day) (key : PositionKey) → Grows sheet day (day_after_letter_end book sheet day key)
letter_end_grows book sheet day key = let position = position_at day.register key in end_grows book sheet day position position.letter

payment_grows : (sheet : Sheet) (day : Day) (position : Position) (payment : Payment) → Grows sheet day (day_after_payment sheet day position payment)
payment_grows sheet day position pays.Nothing = stays sheet day
payment_grows sheet day position (pays.Cash cash) =
    one_more sheet day (day_after_payment sheet day position (pays.Cash cash)) (cash_dividend_trade sheet position cash) (record { moment = refl; day = refl }) refl
payment_grows sheet day position (pays.Shares cash mils) =
    one_more sheet day (day_after_payment sheet day position (pays.Shares cash mils)) (dividend_trade sheet position cash mils) (record { moment = refl; day = refl }) refl

class_grows : (rates : Rates) (sheet : Sheet) (day : Day) (price : ℕ × ℕ) → Grows sheet day (day_after_class rates sheet day price)
class_grows rates sheet day price =
    let rate = rate_at rates price.0 sheet.moment in by_rate rate (rate == 0)
  where
    paid : (rate : ℕ) → Grows sheet day (day_after_rate sheet rate price day)
    paid rate =
        over_all sheet (day_after_dividend sheet rate price.1)
        (λ d key. (let position = position_at d.register key in payment_grows sheet d position (payment_on rate price.1 position)))
        (keys_of_class price.0 day.register) day

    by_rate : (rate : ℕ) (none : Bool) → Grows sheet day (cond none day (day_after_rate sheet rate price day))
    by_rate rate true = stays sheet day
    by_rate rate false = paid rate

-- ---- the sheet

pub step_grows : (book : Book) (sheet : Sheet) (rows : List OrderRow) (day : Day) → Grows sheet day (day_step book sheet rows day)
unfolding day_step
step_grows book sheet rows day =
    let paid = day_after_dividends book sheet day in
    let ended = day_after_letter_ends book sheet paid in
    further sheet day paid (day_after_orders book sheet rows ended)
    (over_all sheet (day_after_class book.rates sheet) (λ d price. class_grows book.rates sheet d price) sheet.prices day)
    (further sheet paid ended (day_after_orders book sheet rows ended)
    (over_all sheet (day_after_letter_end book sheet) (λ d key. letter_end_grows book sheet d key) (keys_of_letters_over sheet paid.register) paid)
    (over_all sheet (day_after_order book sheet) (λ d row. body_grows book sheet d row.order row.order.body) rows ended))
