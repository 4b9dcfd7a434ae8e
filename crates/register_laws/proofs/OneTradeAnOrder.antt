-- An order is traded once, on the sheet of its next price.
use Rattle.register_laws.proofs.OrdersInTurn.{NumberedFrom, numbered-first, numbered-rest, turns-count}
use Rattle.std.proofs.Common.{All, Bool, Contains, List, None, Option, Some, [], ap, append-nil, append_assoc, arith, cond, count_by, false, filter, find, flat_map, fold, get_or, inl, inr, is_some, length, map, not, option_map, option_to_list, position, refl, suc, sym, true, zero, ℕ, ◌&&◌, ◌*◌, ◌++◌, ◌+◌, ◌<◌, ◌==◌, ◌∙◌, ◌∷◌, ◌≡◌, ◌≤◌}
use Rattle.std.proofs.lemmas.Bool.{and_from, and_parts, and_right, cases_lt, eqb-true, false_from_ne_true, true≢false}
use Rattle.std.proofs.lemmas.Bool.Decides.{Decides-eqb}
use Rattle.std.proofs.lemmas.List.{length-map, map-append}
use Rattle.std.proofs.lemmas.List.Elements.{All-cons, All-nil, Contains-get_or, filter-append}
use Rattle.std.proofs.lemmas.List.Sums.{length-filter, sum_by-append, sum_by-cons}
use Rattle.std.specs.Option.{option_map_or}
use Rattle.agent_events.specs.declared.order.Body.{Body}
use Rattle.agent_events.specs.declared.event.EventKind.{EventKind}
use Rattle.agent_events.specs.Events.{Event, order_request, request_of}
use Rattle.agent_events.specs.declared.event.Source.{Source}
use Rattle.agent_events.specs.declared.order.Order.{Order}
use Rattle.agent_events.specs.declared.order.OrderRow.{OrderRow}
use Rattle.agent_events.specs.declared.request.EntryForm.{EntryForm}
use Rattle.contingent_charge.specs.DeferredCharge.{charge_of_pieces}
use Rattle.dividend_reinvest.specs.declared.payment.Payment.{Payment}
use Rattle.forward_price.proofs.PricingFacts.{next_sheet-next}
use Rattle.forward_price.specs.PriceTables.{AreNumbered}
use Rattle.forward_price.specs.declared.price_sheet.Sheet.{Sheet}
use Rattle.fund_exchange.specs.Exchange.{transfer_of}
use Rattle.letter_of_intent.specs.Letters.{new_letter, note_of_purchase, settlement}
use Rattle.letter_of_intent.specs.declared.letter.Letter.{Letter}
use Rattle.money_units.specs.Rounding.{half}
use Rattle.offering_price.specs.Purchase.{split_of}
use Rattle.offering_price.specs.declared.purchase.Split.{Split}
use Rattle.share_lots.specs.Lots.{Added, shares_added, held_total}
use Rattle.share_lots.specs.Taking.{pieces}
use Rattle.register_laws.proofs.NoIdentityTwice.{no_reference_twice}
use Rattle.register_laws.proofs.TablesAreOrderly.{numbered}
use Rattle.register_laws.specs.Lawful.{book_behind}
use Rattle.register_laws.specs.Priced.{IsFoundOnItsSheet, IsTradedOnItsSheet, OrderTraded, TradesFollowOrders, TradesOrdersOnce, is_order_kind, is_order_trade, kind_of, number_due, order_traded, row_traded, traded_as}
use Rattle.register_machine.specs.journal.Choices.{first_some, last_of, when}
use Rattle.register_machine.specs.journal.Journals.{Journal}
use Rattle.register_machine.specs.journal.Kinds.{each_in, replacement_in}
use Rattle.register_machine.specs.journal.Lawful.{IsLawful}
use Rattle.register_machine.specs.pricing.CorrectedBook.{Book, front_of, schedule_of, sheet_of}
use Rattle.register_machine.specs.pricing.CorrectedOrders.{is_named, order_begun, orders_begun, orders_of, replaces, row_as_corrected, row_as_sent, stands, struck_in}
use Rattle.register_machine.specs.pricing.DividendRates.{Rates, rate_at}
use Rattle.register_machine.specs.pricing.OrderClasses.{class_of, classes_in}
use Rattle.register_machine.specs.replay.DayStep.{day_after_body, day_after_order, day_after_orders, day_step}
use Rattle.register_machine.specs.replay.Dividend.{cash_dividend_trade, day_after_class, day_after_dividend, day_after_dividends, day_after_payment, day_after_rate, dividend_trade, keys_of_class, payment_on}
use Rattle.register_machine.specs.replay.Exchange.{day_after_exchange, exchange_reasons, exchange_trade, position_with_pieces}
use Rattle.register_machine.specs.replay.Letter.{day_after_end_of, day_after_letter, day_after_letter_end, day_after_letter_ends, keys_of_letters_over, letter_end_trade}
use Rattle.register_machine.specs.replay.Positions.{Position, has_room, position_at, position_of}
use Rattle.register_machine.specs.replay.Purchase.{credit_of, day_at_split, day_if_reached, day_with_lot, position_after_note, purchase_rate, purchase_trade}
use Rattle.register_machine.specs.replay.Redemption.{day_after_redemption, day_after_redemption_for, day_after_sale, loose_of, position_less, redemption_trade, short_of}
use Rattle.register_machine.specs.replay.Replay.{Priced, day_after_sheet, first_day, is_priced_on, orders_on, priced_in, priced_orders, replay}
use Rattle.agent_events.specs.declared.trade.Outcome.{Outcome}
use Rattle.agent_events.specs.declared.trade.Trade.{Trade}
use Rattle.agent_events.specs.declared.trade.TradeKind.{TradeKind}
use Rattle.agent_events.specs.declared.trade.Why.{Why}
use Rattle.register_machine.specs.replay.Trades.{Day, day_after_trade, day_unless, nav_of, order_trade, plain_trade, with_position}
use Rattle.register_machine.specs.rules.Breaks.{is_filled, is_trade_of}
use Rattle.register_machine.specs.rules.Identities.{brings_reference, reference_of}
use Rattle.dividend_reinvest.specs.declared.payment.Payment.TheVariants as pays

-- ---- tests that tell the trades of orders

-- no other trade passes, and of the trades of orders those that the test of accounts and references lets pass
record Tells (p : Trade → Bool) (q : ℕ → ℕ → Bool) : Type 0 where
  pub other : (trade : Trade) → is_order_kind trade.kind ≡ false → trade.ref_no ≡ 0 → is_filled trade.outcome ≡ true → p trade ≡ false
  pub own : (trade : Trade) → is_order_kind trade.kind ≡ true → p trade ≡ q trade.account trade.ref_no

all-tell : Tells (λ trade. is_order_kind trade.kind) (λ account ref_no. true)
all-tell = record { other = λ trade kind none filled. kind; own = λ trade kind. kind }

abbrev is_this : ℕ → ℕ → ℕ → ℕ → Bool
is_this account ref_no other other_ref = other == account && other_ref == ref_no

order-tells : (account ref_no : ℕ) → Tells (is_order_trade account ref_no) (is_this account ref_no)
order-tells account ref_no = record {
  other = λ trade kind none filled. ap (λ b. b && is_trade_of account ref_no trade) kind;
  own = λ trade kind. ap (λ b. b && is_trade_of account ref_no trade) kind;
}

-- a reference that is at least 1 tells them too, since trades without an order have none
reference-tells : (account ref_no : ℕ) → 0 < ref_no → Tells (is_trade_of account ref_no) (is_this account ref_no)
reference-tells account ref_no some = record {
  other = λ trade kind none filled. and_right (trade.account == account) (trade.ref_no == ref_no) (ap (λ n. n == ref_no) none ∙ not_zero);
  own = λ trade kind. refl;
}
  where
    not_zero : (0 == ref_no) ≡ false
    not_zero = false_from_ne_true (0 == ref_no) (λ e. let same = eqb-true 0 ref_no e in absurd (omega (arith, same, some)))

-- a trade of no order that is unfilled
abbrev pub is_bare : Trade → Bool
is_bare trade = not (is_order_kind trade.kind) && not (is_filled trade.outcome)

bare-tells : Tells is_bare (λ account ref_no. false)
bare-tells = record {
  other = λ trade kind none filled. and_right (not (is_order_kind trade.kind)) (not (is_filled trade.outcome)) (ap not filled);
  own = λ trade kind. ap (λ b. not b && not (is_filled trade.outcome)) kind;
}

-- ---- the orders of the trades that pass

abbrev marks : (Trade → Bool) → List Trade → List OrderTraded
marks p trades = map order_traded (filter p trades)

one-mark : (p : Trade → Bool) (trade : Trade) → marks p (trade ∷ []) ≡ cond (p trade) (order_traded trade ∷ []) []
one-mark p trade = elim (p trade) as (λ b. map order_traded (cond b (trade ∷ []) []) ≡ cond b (order_traded trade ∷ []) []) [ true ↦ refl | false ↦ refl ]

more-marks : (p : Trade → Bool) (trades : List Trade) (trade : Trade) → marks p (trades ++ trade ∷ []) ≡ marks p trades ++ cond (p trade) (order_traded trade ∷ []) []
more-marks p trades trade =
    ap (map order_traded) (filter-append p trades (trade ∷ []))
    ∙ (map-append order_traded (filter p trades) (filter p (trade ∷ []))
    ∙ ap (λ last. marks p trades ++ last) (one-mark p trade))

-- a trade without an order leaves no mark
no-mark : (p : Trade → Bool) (q : ℕ → ℕ → Bool) → Tells p q → (trades : List Trade) (trade : Trade) → is_order_kind trade.kind ≡ false → trade.ref_no ≡ 0 → is_filled trade.outcome ≡ true → marks p (trades ++ trade ∷ []) ≡ marks p trades
no-mark p q tells trades trade kind none filled =
    more-marks p trades trade
    ∙ (ap (λ b. marks p trades ++ cond b (order_traded trade ∷ []) []) (tells.other trade kind none filled) ∙ append-nil (marks p trades))

-- the trade of an order on a sheet
record IsTradeOn (sheet : Sheet) (order : Order) (trade : Trade) : Type 0 where
  pub kind : is_order_kind trade.kind ≡ true
  pub says : order_traded trade ≡ traded_as sheet order (kind_of order.body)

-- an order that passes leaves a mark
abbrev order_mark : (ℕ → ℕ → Bool) → Sheet → Order → List OrderTraded
order_mark q sheet order =
    cond (q order.account order.ref_no) (traded_as sheet order (kind_of order.body) ∷ []) []

its-mark : (p : Trade → Bool) (q : ℕ → ℕ → Bool) → Tells p q → (sheet : Sheet) (order : Order) (trades : List Trade) (trade : Trade) → IsTradeOn sheet order trade → marks p (trades ++ trade ∷ []) ≡ marks p trades ++ order_mark q sheet order
its-mark p q tells sheet order trades trade is =
    more-marks p trades trade
    ∙ ap (λ last. marks p trades ++ last)
    (ap (λ b. cond b (order_traded trade ∷ []) []) (tells.own trade is.kind ∙ ap (λ (traded : OrderTraded). q traded.account traded.ref_no) is.says)
    ∙ ap (λ traded. cond (q order.account order.ref_no) (traded ∷ []) []) is.says)

-- ---- one order

-- a day behind an order has the marks before and that of the order
abbrev Marks : (Trade → Bool) → (ℕ → ℕ → Bool) → Sheet → Order → Day → Day → Type 0
Marks p q sheet order before after =
    marks p after.trades ≡ marks p before.trades ++ order_mark q sheet order

unless-marks : (p : Trade → Bool) (q : ℕ → ℕ → Bool) → Tells p q → (sheet : Sheet) (order : Order) (found : Option Why) (day : Day) (trade : Trade) (done : Day) → IsTradeOn sheet order trade → Marks p q sheet order day done → Marks p q sheet order day (day_unless found day trade done)
unless-marks p q tells sheet order None day trade done is marks_done = marks_done
unless-marks p q tells sheet order (Some why) day trade done is marks_done =
    its-mark p q tells sheet order day.trades (record trade { outcome = Outcome.Unfilled why })
    (record { kind = is.kind; says = is.says })

kind-is-order : (body : Body) → is_order_kind (kind_of body) ≡ true
kind-is-order (Body.Buy class gross) = refl
kind-is-order (Body.Sell class mils) = refl
kind-is-order (Body.SellCash class amount) = refl
kind-is-order (Body.SellAll class) = refl
kind-is-order (Body.Exchange class to mils) = refl
kind-is-order (Body.ExchangeAll class to) = refl
kind-is-order (Body.Letter class amount) = refl
kind-is-order (Body.Elect class true) = refl
kind-is-order (Body.Elect class false) = refl

order-trade-is : (sheet : Sheet) (order : Order) (kind : TradeKind) → kind ≡ kind_of order.body → IsTradeOn sheet order (order_trade sheet order kind)
order-trade-is sheet order kind e = record {
  kind = ap is_order_kind e ∙ kind-is-order order.body;
  says = ap (traded_as sheet order) e;
}

lot-marks : (p : Trade → Bool) (q : ℕ → ℕ → Bool) → Tells p q → (sheet : Sheet) (order : Order) (day : Day) (position : Position) (more : Added) (letter : Option Letter) (gross : ℕ) (split : Split) (trade : Trade) → IsTradeOn sheet order trade → Marks p q sheet order day (day_with_lot sheet day position more letter gross split trade)
lot-marks p q tells sheet order day position more None gross split trade is =
    its-mark p q tells sheet order day.trades trade is
lot-marks p q tells sheet order day position more (Some letter) gross split trade is =
    by_reached (note_of_purchase letter gross split.price split.mils).reached
  where
    kept : Position
    kept = position_after_note position more letter gross split

    by_reached : (reached : Bool) → Marks p q sheet order day (day_if_reached reached sheet kept (day_after_trade day kept trade))
    by_reached true =
        no-mark p q tells (day.trades ++ trade ∷ []) (plain_trade sheet kept.account kept.class TradeKind.LetterReached) refl refl refl
        ∙ its-mark p q tells sheet order day.trades trade is
    by_reached false = its-mark p q tells sheet order day.trades trade is

split-marks : (p : Trade → Bool) (q : ℕ → ℕ → Bool) → Tells p q → (sheet : Sheet) (order : Order) (day : Day) (position : Position) (gross : ℕ) (split : Option Split) (trade : Trade) → IsTradeOn sheet order trade → Marks p q sheet order day (day_at_split sheet day position gross split trade)
split-marks p q tells sheet order day position gross None trade is =
    unless-marks p q tells sheet order (Some Why.TooSmall) day trade
    (record { register = []; trades = day.trades ++ trade ∷ [] }) is
    (its-mark p q tells sheet order day.trades trade is)
split-marks p q tells sheet order day position gross (Some split) trade is =
    let more = shares_added position.holding sheet.day split.mils gross false in
    let bought = purchase_trade trade gross split in
    unless-marks p q tells sheet order (first_some (when (not (has_room position.holding split.mils gross)) Why.Ceiling ∷ [])) day trade
    (day_with_lot sheet day position more position.letter gross split bought) is
    (lot-marks p q tells sheet order day position more position.letter gross split bought
    (record { kind = is.kind; says = is.says }))

redemption-marks : (p : Trade → Bool) (q : ℕ → ℕ → Bool) → Tells p q → (book : Book) (sheet : Sheet) (day : Day) (order : Order) → TradeKind.Sell ≡ kind_of order.body → (asked : ℕ) → Marks p q sheet order day (day_after_redemption book sheet day order asked)
redemption-marks p q tells book sheet day order e asked =
    let position = position_of day.register order.account (class_of order.body) in
    let trade = order_trade sheet order TradeKind.Sell in
    let sold = day_after_sale book sheet day position asked trade in
    unless-marks p q tells sheet order (first_some (short_of position.holding asked ∷ [])) day trade sold
    (order-trade-is sheet order TradeKind.Sell e)
    (its-mark p q tells sheet order day.trades (redemption_trade trade (nav_of sheet position.class) asked (charge_of_pieces (pieces asked position.holding.lots) (nav_of sheet position.class) sheet.day (schedule_of book position.class)))
    (let is = order-trade-is sheet order TradeKind.Sell e in record { kind = is.kind; says = is.says }))

redemption_for-marks : (p : Trade → Bool) (q : ℕ → ℕ → Bool) → Tells p q → (book : Book) (sheet : Sheet) (day : Day) (order : Order) → TradeKind.Sell ≡ kind_of order.body → (amount : ℕ) → Marks p q sheet order day (day_after_redemption_for book sheet day order amount)
redemption_for-marks p q tells book sheet day order e amount =
    let position = position_of day.register order.account (class_of order.body) in
    let asked = half (1000 * amount) (nav_of sheet position.class) in
    let trade = order_trade sheet order TradeKind.Sell in
    let sold = day_after_sale book sheet day position asked trade in
    unless-marks p q tells sheet order (first_some (when (asked == 0) Why.TooSmall ∷ short_of position.holding asked ∷ [])) day trade sold
    (order-trade-is sheet order TradeKind.Sell e)
    (its-mark p q tells sheet order day.trades (redemption_trade trade (nav_of sheet position.class) asked (charge_of_pieces (pieces asked position.holding.lots) (nav_of sheet position.class) sheet.day (schedule_of book position.class)))
    (let is = order-trade-is sheet order TradeKind.Sell e in record { kind = is.kind; says = is.says }))

exchange-marks : (p : Trade → Bool) (q : ℕ → ℕ → Bool) → Tells p q → (sheet : Sheet) (day : Day) (order : Order) → TradeKind.Exchange ≡ kind_of order.body → (to asked : ℕ) → Marks p q sheet order day (day_after_exchange sheet day order to asked)
exchange-marks p q tells sheet day order e to asked =
    let position = position_of day.register order.account (class_of order.body) in
    let target = position_of day.register order.account to in
    let nav = nav_of sheet position.class in
    let moved = transfer_of nav (nav_of sheet to) (pieces asked position.holding.lots) in
    let trade = order_trade sheet order TradeKind.Exchange in
    unless-marks p q tells sheet order (first_some (exchange_reasons position target asked moved)) day trade
    (day_after_trade (with_position day (position_less position asked)) (position_with_pieces target moved.pieces) (exchange_trade trade nav asked moved))
    (order-trade-is sheet order TradeKind.Exchange e)
    (its-mark p q tells sheet order day.trades (exchange_trade trade nav asked moved)
    (let is = order-trade-is sheet order TradeKind.Exchange e in record { kind = is.kind; says = is.says }))

letter-marks : (p : Trade → Bool) (q : ℕ → ℕ → Bool) → Tells p q → (book : Book) (sheet : Sheet) (day : Day) (order : Order) → TradeKind.Letter ≡ kind_of order.body → (amount : ℕ) → Marks p q sheet order day (day_after_letter book sheet day order amount)
letter-marks p q tells book sheet day order e amount =
    let position = position_of day.register order.account (class_of order.body) in
    let trade = order_trade sheet order TradeKind.Letter in
    let start = credit_of book sheet day.register order.account in
    unless-marks p q tells sheet order (first_some (when (is_some position.letter) Why.LetterOpen ∷ [])) day trade
    (day_after_trade day (record position { letter = Some (new_letter amount sheet.day start (front_of book position.class)) }) (record trade { cash = amount }))
    (order-trade-is sheet order TradeKind.Letter e)
    (its-mark p q tells sheet order day.trades (record trade { cash = amount })
    (let is = order-trade-is sheet order TradeKind.Letter e in record { kind = is.kind; says = is.says }))

body-marks : (p : Trade → Bool) (q : ℕ → ℕ → Bool) → Tells p q → (book : Book) (sheet : Sheet) (day : Day) (order : Order) (body : Body) → order.body ≡ body → Marks p q sheet order day (day_after_body book sheet day order body)
body-marks p q tells book sheet day order (Body.Buy class gross) e =
    let position = position_of day.register order.account (class_of order.body) in
    split-marks p q tells sheet order day position gross
    (split_of gross (nav_of sheet position.class) (purchase_rate book sheet day.register position gross))
    (order_trade sheet order TradeKind.Buy) (order-trade-is sheet order TradeKind.Buy (ap kind_of (sym e)))
body-marks p q tells book sheet day order (Body.Sell class mils) e = redemption-marks p q tells book sheet day order (ap kind_of (sym e)) mils
body-marks p q tells book sheet day order (Body.SellCash class amount) e = redemption_for-marks p q tells book sheet day order (ap kind_of (sym e)) amount
body-marks p q tells book sheet day order (Body.SellAll class) e = redemption-marks p q tells book sheet day order (ap kind_of (sym e)) (loose_of day order)
body-marks p q tells book sheet day order (Body.Exchange class to mils) e = exchange-marks p q tells sheet day order (ap kind_of (sym e)) to mils
body-marks p q tells book sheet day order (Body.ExchangeAll class to) e = exchange-marks p q tells sheet day order (ap kind_of (sym e)) to (loose_of day order)
body-marks p q tells book sheet day order (Body.Letter class amount) e = letter-marks p q tells book sheet day order (ap kind_of (sym e)) amount
body-marks p q tells book sheet day order (Body.Elect class in_cash) e =
    its-mark p q tells sheet order day.trades (order_trade sheet order (cond in_cash TradeKind.ElectCash TradeKind.ElectShares))
    (order-trade-is sheet order (cond in_cash TradeKind.ElectCash TradeKind.ElectShares) (ap kind_of (sym e)))

-- ---- the orders of a sheet

-- the marks that orders leave on a sheet
abbrev row_marks : (ℕ → ℕ → Bool) → Sheet → List OrderRow → List OrderTraded
row_marks q sheet rows = flat_map (λ row. order_mark q sheet row.order) rows

orders-marks : (p : Trade → Bool) (q : ℕ → ℕ → Bool) → Tells p q → (book : Book) (sheet : Sheet) (rows : List OrderRow) (day : Day) → marks p (day_after_orders book sheet rows day).trades ≡ marks p day.trades ++ row_marks q sheet rows
orders-marks p q tells book sheet [] day = sym (append-nil (marks p day.trades))
orders-marks p q tells book sheet (row ∷ rows) day =
    orders-marks p q tells book sheet rows (day_after_order book sheet day row)
    ∙ (ap (λ before. before ++ row_marks q sheet rows) (body-marks p q tells book sheet day row.order row.order.body refl)
    ∙ append_assoc (marks p day.trades) (order_mark q sheet row.order) (row_marks q sheet rows))

-- ---- dividends and letters that end

fold-same : {X : Type 0} (p : Trade → Bool) (f : Day → X → Day) → ((day : Day) (x : X) → marks p (f day x).trades ≡ marks p day.trades) → (xs : List X) (day : Day) → marks p (fold f day xs).trades ≡ marks p day.trades
fold-same p f same [] day = refl
fold-same p f same (x ∷ xs) day = fold-same p f same xs (f day x) ∙ same day x

payment-same : (p : Trade → Bool) (q : ℕ → ℕ → Bool) → Tells p q → (sheet : Sheet) (day : Day) (position : Position) (payment : Payment) → marks p (day_after_payment sheet day position payment).trades ≡ marks p day.trades
payment-same p q tells sheet day position pays.Nothing = refl
payment-same p q tells sheet day position (pays.Cash cash) =
    no-mark p q tells day.trades (cash_dividend_trade sheet position cash) refl refl refl
payment-same p q tells sheet day position (pays.Shares cash mils) =
    no-mark p q tells day.trades (dividend_trade sheet position cash mils) refl refl refl

class-same : (p : Trade → Bool) (q : ℕ → ℕ → Bool) → Tells p q → (rates : Rates) (sheet : Sheet) (day : Day) (price : ℕ × ℕ) → marks p (day_after_class rates sheet day price).trades ≡ marks p day.trades
class-same p q tells rates sheet day price =
    by_rate (rate_at rates price.0 sheet.moment) (rate_at rates price.0 sheet.moment == 0)
  where
    by_rate : (rate : ℕ) (none : Bool) → marks p (cond none day (day_after_rate sheet rate price day)).trades ≡ marks p day.trades
    by_rate rate true = refl
    by_rate rate false =
        fold-same p (day_after_dividend sheet rate price.1)
        (λ d key. let position = position_at d.register key in payment-same p q tells sheet d position (payment_on rate price.1 position))
        (keys_of_class price.0 day.register) day

end-same : (p : Trade → Bool) (q : ℕ → ℕ → Bool) → Tells p q → (book : Book) (sheet : Sheet) (day : Day) (position : Position) (letter : Option Letter) → marks p (day_after_end_of book sheet day position letter).trades ≡ marks p day.trades
end-same p q tells book sheet day position None = refl
end-same p q tells book sheet day position (Some letter) =
    no-mark p q tells day.trades
    (letter_end_trade sheet position (settlement (front_of book position.class) letter (nav_of sheet position.class) (held_total position.holding))) refl refl refl

-- ---- a sheet, and all sheets

step-marks : (p : Trade → Bool) (q : ℕ → ℕ → Bool) → Tells p q → (book : Book) (sheet : Sheet) (rows : List OrderRow) (day : Day) → marks p (day_step book sheet rows day).trades ≡ marks p day.trades ++ row_marks q sheet rows
unfolding day_step
step-marks p q tells book sheet rows day =
    let paid = day_after_dividends book sheet day in
    let ended = day_after_letter_ends book sheet paid in
    orders-marks p q tells book sheet rows ended
    ∙ ap (λ before. before ++ row_marks q sheet rows)
    (fold-same p (day_after_letter_end book sheet)
    (λ d key. let position = position_at d.register key in end-same p q tells book sheet d position position.letter)
    (keys_of_letters_over sheet paid.register) paid
    ∙ fold-same p (day_after_class book.rates sheet) (class-same p q tells book.rates sheet) sheet.prices day)

abbrev sheet_marks : (ℕ → ℕ → Bool) → List Priced → List Sheet → List OrderTraded
sheet_marks q priced sheets = flat_map (λ sheet. row_marks q sheet (orders_on priced sheet)) sheets

sheets-marks : (p : Trade → Bool) (q : ℕ → ℕ → Bool) → Tells p q → (book : Book) (priced : List Priced) (sheets : List Sheet) (day : Day) → marks p (fold (day_after_sheet book priced) day sheets).trades ≡ marks p day.trades ++ sheet_marks q priced sheets
sheets-marks p q tells book priced [] day = sym (append-nil (marks p day.trades))
sheets-marks p q tells book priced (sheet ∷ sheets) day =
    sheets-marks p q tells book priced sheets (day_after_sheet book priced day sheet)
    ∙ (ap (λ before. before ++ sheet_marks q priced sheets) (step-marks p q tells book sheet (orders_on priced sheet) day)
    ∙ append_assoc (marks p day.trades) (row_marks q sheet (orders_on priced sheet)) (sheet_marks q priced sheets))

replay-marks : (p : Trade → Bool) (q : ℕ → ℕ → Bool) → Tells p q → (book : Book) → marks p (replay book).trades ≡ sheet_marks q (priced_orders book) book.table.sheets
unfolding replay
replay-marks p q tells book = sheets-marks p q tells book (priced_orders book) book.table.sheets first_day

-- ---- all trades of orders

rows-each : (sheet : Sheet) (rows : List OrderRow) → row_marks (λ account ref_no. true) sheet rows ≡ map (row_traded sheet) rows
rows-each sheet [] = refl
rows-each sheet (row ∷ rows) = ap (λ later. row_traded sheet row ∷ later) (rows-each sheet rows)

sheets-each : (priced : List Priced) (sheets : List Sheet) → sheet_marks (λ account ref_no. true) priced sheets ≡ flat_map (λ sheet. map (row_traded sheet) (orders_on priced sheet)) sheets
sheets-each priced [] = refl
sheets-each priced (sheet ∷ sheets) =
    ap (λ here. here ++ sheet_marks (λ account ref_no. true) priced sheets) (rows-each sheet (orders_on priced sheet))
    ∙ ap (λ later. map (row_traded sheet) (orders_on priced sheet) ++ later) (sheets-each priced sheets)

pub trades_follow_orders : (book : Book) → TradesFollowOrders book
trades_follow_orders book =
    replay-marks (λ trade. is_order_kind trade.kind) (λ account ref_no. true) all-tell book
    ∙ sheets-each (priced_orders book) book.table.sheets

-- no trade is bare
nothing-marked : (priced : List Priced) (sheets : List Sheet) → sheet_marks (λ account ref_no. false) priced sheets ≡ []
nothing-marked priced [] = refl
nothing-marked priced (sheet ∷ sheets) =
    ap (λ here. here ++ sheet_marks (λ account ref_no. false) priced sheets) (rows_none (orders_on priced sheet)) ∙ nothing-marked priced sheets
  where
    rows_none : (rows : List OrderRow) → row_marks (λ account ref_no. false) sheet rows ≡ []
    rows_none [] = refl
    rows_none (row ∷ rows) = rows_none rows

none-passing : (p : Trade → Bool) (trades : List Trade) → marks p trades ≡ [] → All (λ trade. p trade ≡ false) trades
none-passing p [] e = All-nil (λ trade. p trade ≡ false)
none-passing p (trade ∷ trades) e = by_first (p trade) refl e (λ h. none-passing p trades h)
  where
    none : {x : OrderTraded} {xs : List OrderTraded} → x ∷ xs ≡ [] → ⊥
    none h = cc

    by_first : (b : Bool) → p trade ≡ b → map order_traded (cond b (trade ∷ filter p trades) (filter p trades)) ≡ [] → (marks p trades ≡ [] → All (λ t. p t ≡ false) trades) → All (λ t. p t ≡ false) (trade ∷ trades)
    by_first true is h rest = absurd (none h)
    by_first false is h rest = All-cons (λ t. p t ≡ false) trade trades is (rest h)

pub no_bare : (book : Book) → All (λ trade. is_bare trade ≡ false) (replay book).trades
no_bare book =
    none-passing is_bare (replay book).trades
    (replay-marks is_bare (λ account ref_no. false) bare-tells book ∙ nothing-marked (priced_orders book) book.table.sheets)

-- ---- the sheets of one order

-- a number so many times
times : ℕ → ℕ → List ℕ
times number zero = []
times number (suc n) = number ∷ times number n

times-more : (number : ℕ) (b : Bool) (n : ℕ) → times number (cond b 1 0 + n) ≡ cond b (number ∷ []) [] ++ times number n
unfolding times
times-more number true n = let same : 1 + n ≡ suc n = omega arith in ap (times number) same
times-more number false n = let same : 0 + n ≡ n = omega arith in ap (times number) same

abbrev is_own : ℕ → ℕ → OrderRow → Bool
is_own account ref_no row = is_named account ref_no row.order

abbrev sheets_in : List OrderTraded → List ℕ
sheets_in traded = map (λ order. order.sheet) traded

row-times : (account ref_no : ℕ) (sheet : Sheet) (rows : List OrderRow) → sheets_in (row_marks (is_this account ref_no) sheet rows) ≡ times sheet.number (count_by (is_own account ref_no) rows)
unfolding times
row-times account ref_no sheet [] = refl
row-times account ref_no sheet (row ∷ rows) =
    map-append (λ (order : OrderTraded). order.sheet) (order_mark (is_this account ref_no) sheet row.order) (row_marks (is_this account ref_no) sheet rows)
    ∙ (ap (λ later. sheets_in (order_mark (is_this account ref_no) sheet row.order) ++ later) (row-times account ref_no sheet rows)
    ∙ (ap (λ here. here ++ times sheet.number (count_by (is_own account ref_no) rows)) (by_name (is_own account ref_no row))
    ∙ (sym (times-more sheet.number (is_own account ref_no row) (count_by (is_own account ref_no) rows))
    ∙ ap (times sheet.number) (sym (sum_by-cons (λ (other : OrderRow). cond (is_own account ref_no other) 1 0) row rows)))))
  where
    by_name : (b : Bool) → sheets_in (cond b (traded_as sheet row.order (kind_of row.order.body) ∷ []) []) ≡ cond b (sheet.number ∷ []) []
    by_name true = refl
    by_name false = refl

-- the numbers of the sheets, each as often as it executes one of the orders
numbers_on : (Sheet → ℕ) → List Sheet → List ℕ
numbers_on executed [] = []
numbers_on executed (sheet ∷ sheets) = times sheet.number (executed sheet) ++ numbers_on executed sheets

abbrev executed_on : (OrderRow → Bool) → List Priced → Sheet → ℕ
executed_on q priced sheet = count_by q (orders_on priced sheet)

sheet-times : (account ref_no : ℕ) (priced : List Priced) (sheets : List Sheet) → sheets_in (sheet_marks (is_this account ref_no) priced sheets) ≡ numbers_on (executed_on (is_own account ref_no) priced) sheets
unfolding numbers_on
sheet-times account ref_no priced [] = refl
sheet-times account ref_no priced (sheet ∷ sheets) =
    map-append (λ (order : OrderTraded). order.sheet) (row_marks (is_this account ref_no) sheet (orders_on priced sheet)) (sheet_marks (is_this account ref_no) priced sheets)
    ∙ (ap (λ later. sheets_in (row_marks (is_this account ref_no) sheet (orders_on priced sheet)) ++ later) (sheet-times account ref_no priced sheets)
    ∙ ap (λ here. here ++ numbers_on (executed_on (is_own account ref_no) priced) sheets) (row-times account ref_no sheet (orders_on priced sheet)))

sheets-of : (trades : List Trade) → map (λ (trade : Trade). trade.sheet) trades ≡ sheets_in (map order_traded trades)
sheets-of [] = refl
sheets-of (trade ∷ trades) = ap (λ later. trade.sheet ∷ later) (sheets-of trades)

sheets-traded : (p : Trade → Bool) (account ref_no : ℕ) → Tells p (is_this account ref_no) → (book : Book) → map (λ (trade : Trade). trade.sheet) (filter p (replay book).trades) ≡ numbers_on (executed_on (is_own account ref_no) (priced_orders book)) book.table.sheets
sheets-traded p account ref_no tells book =
    sheets-of (filter p (replay book).trades)
    ∙ (ap sheets_in (replay-marks p (is_this account ref_no) tells book) ∙ sheet-times account ref_no (priced_orders book) book.table.sheets)

-- ---- the orders that a sheet executes

-- of those that pass, the ones that have their sheet there
abbrev has_sheet : List Sheet → ℕ → OrderRow → Bool
has_sheet sheets number row = is_priced_on number (priced_in sheets row)

chosen-same : (q : OrderRow → Bool) (sheets : List Sheet) (number : ℕ) (rows : List OrderRow) → count_by q (map (λ order. order.row) (filter (is_priced_on number) (map (priced_in sheets) rows))) ≡ count_by (has_sheet sheets number) (filter q rows)
chosen-same q sheets number [] = refl
chosen-same q sheets number (row ∷ rows) = by_tests (q row) (has_sheet sheets number row) refl refl (chosen-same q sheets number rows)
  where
    there : List OrderRow
    there = map (λ order. order.row) (filter (is_priced_on number) (map (priced_in sheets) rows))

    one : OrderRow → ℕ
    one other = cond (q other) 1 0

    on : OrderRow → ℕ
    on other = cond (has_sheet sheets number other) 1 0

    by_tests : (b c : Bool) → q row ≡ b → has_sheet sheets number row ≡ c → count_by q there ≡ count_by (has_sheet sheets number) (filter q rows) → count_by q (map (λ (order : Priced). order.row) (cond c (priced_in sheets row ∷ filter (is_priced_on number) (map (priced_in sheets) rows)) (filter (is_priced_on number) (map (priced_in sheets) rows)))) ≡ count_by (has_sheet sheets number) (cond b (row ∷ filter q rows) (filter q rows))
    by_tests true true e h rest =
        let passes : one row ≡ 1 = ap (λ b. cond b 1 0) e in
        let there_too : on row ≡ 1 = ap (λ b. cond b 1 0) h in
        omega (arith, rest, passes, there_too, sum_by-cons one row there, sum_by-cons on row (filter q rows))
    by_tests true false e h rest =
        let elsewhere : on row ≡ 0 = ap (λ b. cond b 1 0) h in
        omega (arith, rest, elsewhere, sum_by-cons on row (filter q rows))
    by_tests false true e h rest =
        let fails : one row ≡ 0 = ap (λ b. cond b 1 0) e in
        omega (arith, rest, fails, sum_by-cons one row there)
    by_tests false false e h rest = rest

executed-is : (q : OrderRow → Bool) (book : Book) (sheet : Sheet) → executed_on q (priced_orders book) sheet ≡ count_by (has_sheet book.table.sheets sheet.number) (filter q (filter stands book.orders))
executed-is q book sheet =
    let rows = map (λ (order : Priced). order.row) (filter (is_priced_on sheet.number) (priced_orders book)) in
    let turned : count_by q (orders_on (priced_orders book) sheet) ≡ count_by q rows = (let all = turns-count q [] rows in omega (arith, all)) in
    turned ∙ chosen-same q book.table.sheets sheet.number (filter stands book.orders)

-- ---- numbered sheets

-- a sheet that executes none has no number there
none-numbered : (executed : Sheet → ℕ) → ((sheet : Sheet) → executed sheet ≡ 0) → (sheets : List Sheet) → numbers_on executed sheets ≡ []
unfolding numbers_on times
none-numbered executed none [] = refl
none-numbered executed none (sheet ∷ sheets) = rw (none sheet) (none-numbered executed none sheets)

apart : (a b : ℕ) → (a ≡ b → ⊥) → (a == b) ≡ false
apart a b differ = false_from_ne_true (a == b) (λ e. differ (eqb-true a b e))

none-before : (number first : ℕ) (executed : Sheet → ℕ) (sheets : List Sheet) → ((sheet : Sheet) → executed sheet ≡ cond (number == sheet.number) 1 0) → NumberedFrom first sheets → number < first → numbers_on executed sheets ≡ []
unfolding numbers_on times
none-before number first executed [] one are less = refl
none-before number first executed (x ∷ xs) one are less =
    rw (one x, apart number x.number (λ same. omega (arith, same, less, numbered-first first x xs are)))
    (none-before number (suc first) executed xs one (numbered-rest first x xs are) (omega (arith, less)))

once-numbered : (number first : ℕ) (executed : Sheet → ℕ) (sheets : List Sheet) → ((sheet : Sheet) → executed sheet ≡ cond (number == sheet.number) 1 0) → NumberedFrom first sheets → first ≤ number → number < first + length sheets → numbers_on executed sheets ≡ number ∷ []
unfolding numbers_on times
once-numbered number first executed [] one are least less = absurd (omega (arith, least, less))
once-numbered number first executed (x ∷ xs) one are least less =
    by_first (number == x.number) refl
    (λ beyond. once-numbered number (suc first) executed xs one (numbered-rest first x xs are) beyond (omega (arith, less)))
  where
    by_first : (b : Bool) → (number == x.number) ≡ b → (suc first ≤ number → numbers_on executed xs ≡ number ∷ []) → times x.number (executed x) ++ numbers_on executed xs ≡ number ∷ []
    by_first true e rest =
        let same = eqb-true number x.number e in
        rw (one x, e, none-before number (suc first) executed xs one (numbered-rest first x xs are) (omega (arith, same, numbered-first first x xs are)))
        (ap (λ n. n ∷ []) (sym same))
    by_first false e rest =
        rw (one x, e)
        (rest
        (elim (cases_lt first number) [
          | inl lt ↦ omega (arith, lt)
          | inr ge ↦ absurd (true≢false (sym ((Decides-eqb number x.number).1 (omega (arith, ge, least, numbered-first first x xs are))) ∙ e))
        ]))

-- ---- one order of an account and reference

filter-swap : {X : Type 0} (p q : X → Bool) (xs : List X) → filter q (filter p xs) ≡ filter p (filter q xs)
filter-swap p q [] = refl
filter-swap p q (x ∷ xs) = by_tests (p x) (q x) refl refl (filter-swap p q xs)
  where
    by_tests : (b c : Bool) → p x ≡ b → q x ≡ c → filter q (filter p xs) ≡ filter p (filter q xs) → filter q (cond b (x ∷ filter p xs) (filter p xs)) ≡ filter p (cond c (x ∷ filter q xs) (filter q xs))
    by_tests true true e h rest = rw (e, h) (ap (λ ys. x ∷ ys) rest)
    by_tests true false e h rest = rw h rest
    by_tests false true e h rest = rw e rest
    by_tests false false e h rest = rest

none-left : {X : Type 0} (xs : List X) → length xs ≤ 0 → xs ≡ []
none-left [] few = refl
none-left (x ∷ xs) few = absurd (omega (arith, few))

passing-left : {X : Type 0} (q : X → Bool) (xs : List X) (x : X) → Contains xs x → q x ≡ true → 0 < length (filter q xs)
passing-left q [] x (k, l, e) h = absurd (omega arith)
passing-left q (y ∷ ys) x (zero, l, e) h = rw (ap q e ∙ h) (omega arith)
passing-left q (y ∷ ys) x (suc k, l, e) h =
    elim (q y) as (λ b. 0 < length (cond b (y ∷ filter q ys) (filter q ys))) [
      | true ↦ omega arith
      | false ↦ passing-left q ys x (k, omega arith, e) h
    ]

-- where at most one passes and this one does, it is all that passes
pub only-one : {X : Type 0} (q : X → Bool) (xs : List X) (x : X) → length (filter q xs) ≤ 1 → Contains xs x → q x ≡ true → filter q xs ≡ x ∷ []
only-one q [] x few (k, l, e) h = absurd (omega arith)
only-one {X = X} q (y ∷ ys) x few (zero, l, e) h = by_first (q y) refl (ap q e ∙ h) few
  where
    by_first : (b : Bool) → q y ≡ b → q y ≡ true → length (cond b (y ∷ filter q ys) (filter q ys)) ≤ 1 → cond b (y ∷ filter q ys) (filter q ys) ≡ x ∷ []
    by_first true is passes short = ap (λ (z : X). z ∷ filter q ys) e ∙ ap (λ zs. x ∷ zs) (none-left (filter q ys) (omega (arith, short)))
    by_first false is passes short = absurd (true≢false (sym passes ∙ is))
only-one q (y ∷ ys) x few (suc k, l, e) h = by_first (q y) few (λ short. only-one q ys x short (k, omega arith, e) h)
  where
    by_first : (b : Bool) → length (cond b (y ∷ filter q ys) (filter q ys)) ≤ 1 → (length (filter q ys) ≤ 1 → filter q ys ≡ x ∷ []) → cond b (y ∷ filter q ys) (filter q ys) ≡ x ∷ []
    by_first true short rest = absurd (omega (arith, short, passing-left q ys x (k, omega arith, e) h))
    by_first false short rest = rest short

-- a row has its own account and reference
own-named : (row : OrderRow) → is_own row.order.account row.order.ref_no row ≡ true
own-named row =
    and_from (row.order.account == row.order.account) (row.order.ref_no == row.order.ref_no)
    ((Decides-eqb row.order.account row.order.account).1 refl) ((Decides-eqb row.order.ref_no row.order.ref_no).1 refl)

-- the sheet of an order is one of those numbered
its-number : (sheets : List Sheet) (sheet : Sheet) → AreNumbered sheets → Contains sheets sheet → (1 ≤ sheet.number) × (sheet.number < 1 + length sheets)
its-number sheets sheet are (k, l, e) =
    let is : sheet.number ≡ k + 1 = sym (ap (λ (s : Sheet). s.number) e) ∙ are.each k sheet l in
    (omega (arith, is), omega (arith, is, l))

traded : (book : Book) (row : OrderRow) (p : Trade → Bool) → AreNumbered book.table.sheets → length (filter (is_own row.order.account row.order.ref_no) book.orders) ≤ 1 → Contains book.orders row → Tells p (is_this row.order.account row.order.ref_no) → map (λ (trade : Trade). trade.sheet) (filter p (replay book).trades) ≡ option_to_list (number_due book row)
traded book row p are few there tells =
    sheets-traded p row.order.account row.order.ref_no tells book
    ∙ by_struck row.struck refl
  where
    standing-is : filter (is_own row.order.account row.order.ref_no) (filter stands book.orders) ≡ filter stands (row ∷ [])
    standing-is =
        filter-swap stands (is_own row.order.account row.order.ref_no) book.orders
        ∙ ap (filter stands) (only-one (is_own row.order.account row.order.ref_no) book.orders row few there (own-named row))

    executed-by : (rows : List OrderRow) → filter stands (row ∷ []) ≡ rows → (sheet : Sheet) → executed_on (is_own row.order.account row.order.ref_no) (priced_orders book) sheet ≡ count_by (has_sheet book.table.sheets sheet.number) rows
    executed-by rows left sheet =
        executed-is (is_own row.order.account row.order.ref_no) book sheet
        ∙ ap (count_by (has_sheet book.table.sheets sheet.number)) (standing-is ∙ left)

    by_sheet : (found : Option Sheet) → sheet_of book.table.sheets row ≡ found → ((sheet : Sheet) → executed_on (is_own row.order.account row.order.ref_no) (priced_orders book) sheet ≡ cond (option_map_or (λ number. number == sheet.number) (option_map (λ (s : Sheet). s.number) found) false) 1 0) → numbers_on (executed_on (is_own row.order.account row.order.ref_no) (priced_orders book)) book.table.sheets ≡ option_to_list (option_map (λ (s : Sheet). s.number) found)
    by_sheet None is executed = none-numbered (executed_on (is_own row.order.account row.order.ref_no) (priced_orders book)) executed book.table.sheets
    by_sheet (Some sheet) is executed =
        let within = its-number book.table.sheets sheet are (next_sheet-next book.table.sheets (classes_in row.order.body) row.receipt sheet is).among in
        once-numbered sheet.number 1 (executed_on (is_own row.order.account row.order.ref_no) (priced_orders book)) book.table.sheets executed are.each within.0 within.1

    by_struck : (struck : Bool) → row.struck ≡ struck → numbers_on (executed_on (is_own row.order.account row.order.ref_no) (priced_orders book)) book.table.sheets ≡ option_to_list (cond struck None (priced_in book.table.sheets row).sheet)
    by_struck true is =
        none-numbered (executed_on (is_own row.order.account row.order.ref_no) (priced_orders book))
        (executed-by [] (ap (λ b. cond (not b) (row ∷ []) []) is)) book.table.sheets
    by_struck false is =
        by_sheet (sheet_of book.table.sheets row) refl
        (λ sheet. executed-by (row ∷ []) (ap (λ b. cond (not b) (row ∷ []) []) is) sheet ∙ one-counted sheet)
      where
        one-counted : (sheet : Sheet) → count_by (has_sheet book.table.sheets sheet.number) (row ∷ []) ≡ cond (has_sheet book.table.sheets sheet.number row) 1 0
        one-counted sheet = omega (arith, sum_by-cons (λ (other : OrderRow). cond (has_sheet book.table.sheets sheet.number other) 1 0) row [])

-- ---- a lawful journal's orders

-- a replacement has the account and reference of its order
abbrev IsNamedAs : Order → Option EntryForm → Type 0
IsNamedAs order None = Unit {0}
IsNamedAs order (Some form) = (form.order.account ≡ order.account) × (form.order.ref_no ≡ order.ref_no)

last-named : (order : Order) (forms : List EntryForm) (found : Option EntryForm) → IsNamedAs order found → IsNamedAs order (fold (λ found form. cond (replaces order form) (Some form) found) found forms)
last-named order [] found is = is
last-named order (form ∷ forms) found is = last-named order forms (cond (replaces order form) (Some form) found) (by_name (replaces order form) refl)
  where
    by_name : (b : Bool) → replaces order form ≡ b → IsNamedAs order (cond b (Some form) found)
    by_name true e =
        let both = and_parts (form.order.account == order.account) (form.order.ref_no == order.ref_no) e in
        (eqb-true form.order.account order.account both.0, eqb-true form.order.ref_no order.ref_no both.1)
    by_name false e = is

corrected-name : (account ref_no : ℕ) (order : Order) (found : Option EntryForm) → IsNamedAs order found → is_named account ref_no (option_map_or (λ form. form.order) found order) ≡ is_named account ref_no order
corrected-name account ref_no order None is = refl
corrected-name account ref_no order (Some form) is = rw (is.0, is.1) refl

row-name : (strikes : List (ℕ × ℕ)) (forms : List EntryForm) (account ref_no : ℕ) (row : OrderRow) → is_own account ref_no (row_as_corrected strikes forms row) ≡ is_own account ref_no row
row-name strikes forms account ref_no row =
    corrected-name account ref_no row.order (last_of (replaces row.order) forms) (last-named row.order forms None tt)

abbrev own_one : ℕ → ℕ → OrderRow → ℕ
own_one account ref_no row = cond (is_own account ref_no row) 1 0

rows-named : (strikes : List (ℕ × ℕ)) (forms : List EntryForm) (account ref_no : ℕ) (rows : List OrderRow) → count_by (is_own account ref_no) (map (row_as_corrected strikes forms) rows) ≡ count_by (is_own account ref_no) rows
rows-named strikes forms account ref_no [] = refl
rows-named strikes forms account ref_no (row ∷ rows) =
    let one = own_one account ref_no in
    let same : one (row_as_corrected strikes forms row) ≡ one row = ap (λ b. cond b 1 0) (row-name strikes forms account ref_no row) in
    omega (arith, sum_by-cons one (row_as_corrected strikes forms row) (map (row_as_corrected strikes forms) rows), sum_by-cons one row rows, same, rows-named strikes forms account ref_no rows)

-- an order begins with an event that brings its reference
ordered-named : (from : Source) (account ref_no receipt : ℕ) (order : Order) → cond (is_named account ref_no order) 1 0 ≤ cond (option_map_or (λ other. other.0 == account && other.1 == ref_no) (reference_of (order_request from receipt order)) false) 1 0
ordered-named Source.Direct account ref_no receipt order = omega arith
ordered-named Source.Dealer account ref_no receipt order = omega arith

begun-one : (account ref_no place : ℕ) (event : Event) → count_by (is_own account ref_no) (option_to_list (order_begun place event.kind)) ≤ cond (brings_reference (account, ref_no) event) 1 0
begun-one account ref_no place event = by_kind event.kind
  where
    one : OrderRow → ℕ
    one row = cond (is_own account ref_no row) 1 0

    by_kind : (kind : EventKind) → count_by (is_own account ref_no) (option_to_list (order_begun place kind)) ≤ cond (option_map_or (λ other. other.0 == account && other.1 == ref_no) (reference_of (request_of kind)) false) 1 0
    by_kind (EventKind.Order placed) =
        omega (arith, ordered-named placed.source account ref_no placed.receipt placed.order, sum_by-cons one (row_as_sent place placed.receipt placed.order) [])
    by_kind (EventKind.Enter form) = omega (arith, sum_by-cons one (row_as_sent place form.receipt form.order) [])
    by_kind kind = omega arith

begun-named : (account ref_no place : ℕ) (journal : Journal) → count_by (is_own account ref_no) (orders_begun place journal) ≤ count_by (brings_reference (account, ref_no)) journal
begun-named account ref_no place [] = omega arith
begun-named account ref_no place (event ∷ later) =
    omega (arith, begun-one account ref_no place event, begun-named account ref_no (place + 1) later, sum_by-append (λ (row : OrderRow). cond (is_own account ref_no row) 1 0) (option_to_list (order_begun place event.kind)) (orders_begun (place + 1) later), sum_by-cons (λ (e : Event). cond (brings_reference (account, ref_no) e) 1 0) event later)

pub orders-named : (journal : Journal) (account ref_no : ℕ) → count_by (λ row. is_named account ref_no row.order) (orders_of journal) ≤ count_by (brings_reference (account, ref_no)) journal
orders-named journal account ref_no =
    omega (arith, rows-named (each_in struck_in journal) (each_in replacement_in journal) account ref_no (orders_begun 0 journal), begun-named account ref_no 0 journal)

pub one-named : (journal : Journal) → IsLawful journal → (account ref_no : ℕ) → length (filter (λ row. is_named account ref_no row.order) (orders_of journal)) ≤ 1
one-named journal lawful account ref_no =
    omega (arith, length-filter (is_own account ref_no) (orders_of journal), orders-named journal account ref_no, length-filter (brings_reference (account, ref_no)) journal, no_reference_twice journal lawful (account, ref_no))

-- ---- the laws

all-traded : (journal : Journal) → IsLawful journal → All (IsTradedOnItsSheet (book_behind journal)) (book_behind journal).orders
all-traded journal lawful k d short =
    let row = get_or (book_behind journal).orders k d in
    traded (book_behind journal) row (is_order_trade row.order.account row.order.ref_no) (numbered journal lawful).corrected
    (one-named journal lawful row.order.account row.order.ref_no) (Contains-get_or (book_behind journal).orders k d short)
    (order-tells row.order.account row.order.ref_no)

first-found : {X Y : Type 0} (p : X → Bool) (f : X → Y) (xs : List X) (found : Option Y) → map f (filter p xs) ≡ option_to_list found → option_map f (find p xs) ≡ found
first-found {Y = Y} p f [] found e = none_listed found e
  where
    none_listed : (o : Option Y) → [] ≡ option_to_list o → None ≡ o
    none_listed None h = refl
    none_listed (Some y) h = cc
first-found {Y = Y} p f (x ∷ xs) found e = by_first (p x) e (λ h. first-found p f xs found h)
  where
    one_listed : (o : Option Y) → f x ∷ map f (filter p xs) ≡ option_to_list o → Some (f x) ≡ o
    one_listed None h = cc
    one_listed (Some y) h = cc

    by_first : (b : Bool) → map f (cond b (x ∷ filter p xs) (filter p xs)) ≡ option_to_list found → (map f (filter p xs) ≡ option_to_list found → option_map f (find p xs) ≡ found) → option_map f (cond b (Some x) (find p xs)) ≡ found
    by_first true h rest = one_listed found h
    by_first false h rest = rest h

all-found : (journal : Journal) → IsLawful journal → All (IsFoundOnItsSheet (book_behind journal)) (book_behind journal).orders
all-found journal lawful k d short some =
    let row = get_or (book_behind journal).orders k d in
    first-found (is_trade_of row.order.account row.order.ref_no) (λ (trade : Trade). trade.sheet) (replay (book_behind journal)).trades (number_due (book_behind journal) row)
    (traded (book_behind journal) row (is_trade_of row.order.account row.order.ref_no) (numbered journal lawful).corrected
    (one-named journal lawful row.order.account row.order.ref_no) (Contains-get_or (book_behind journal).orders k d short)
    (reference-tells row.order.account row.order.ref_no some))

pub traded_once : (journal : Journal) → IsLawful journal → TradesOrdersOnce (book_behind journal)
traded_once journal lawful = record { traded = all-traded journal lawful; found = all-found journal lawful }

-- a reference above 0 names one trade at most
pub named-once : (journal : Journal) → IsLawful journal → (row : OrderRow) → Contains (book_behind journal).orders row → 0 < row.order.ref_no → length (filter (is_trade_of row.order.account row.order.ref_no) (replay (book_behind journal)).trades) ≤ 1
named-once journal lawful row there some =
    let book = book_behind journal in
    let named = filter (is_trade_of row.order.account row.order.ref_no) (replay book).trades in
    let sheets = traded book row (is_trade_of row.order.account row.order.ref_no) (numbered journal lawful).corrected (one-named journal lawful row.order.account row.order.ref_no) there (reference-tells row.order.account row.order.ref_no some) in
    omega (arith, few (number_due book row), ap length sheets, length-map named (λ (trade : Trade). trade.sheet))
  where
    few : (found : Option ℕ) → length (option_to_list found) ≤ 1
    few None = omega arith
    few (Some n) = omega arith
