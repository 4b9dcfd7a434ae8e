-- The trades of a replay never fall by sheet: each sheet adds trades of its own number behind the others.
use Rattle.std.proofs.Common.{All, Bool, List, [], ap, append-nil, append_assoc, arith, cond, false, fold, refl, subst, suc, sym, true, ℕ, ◌++◌, ◌<◌, ◌==◌, ◌∙◌, ◌∷◌, ◌≡◌, ◌≤◌}
use Rattle.std.proofs.lemmas.List.Elements.{All-append, All-cons, All-head, All-nil, All-tail, All-weaker}
use Rattle.std.proofs.lemmas.List.Kept.{AllPairs-cons}
use Rattle.agent_events.specs.declared.order.OrderRow.{OrderRow}
use Rattle.agent_events.specs.declared.trade.Outcome.{Outcome}
use Rattle.agent_events.specs.declared.trade.Trade.{Trade}
use Rattle.agent_events.specs.declared.trade.TradeKind.{TradeKind}
use Rattle.holder_statements.specs.OrderTraces.{NeverFall}
use Rattle.forward_price.specs.PriceTables.{AreNumbered}
use Rattle.forward_price.specs.declared.price_sheet.Sheet.{Sheet}
use Rattle.register_laws.proofs.DayTurns.{Turn, bought_by, day_after_turn, dividend-turns, elected_by, exchanged_by, letter_end-turns, order-turns, reached_by, settled_by, sold_by, trade_of, trades_added}
use Rattle.register_laws.proofs.OrdersInTurn.{NumberedFrom, numbered-first, numbered-rest}
use Rattle.register_laws.proofs.ReplayTurns.{All-one}
use Rattle.register_machine.specs.pricing.CorrectedBook.{Book}
use Rattle.register_machine.specs.pricing.DividendRates.{rate_at}
use Rattle.register_machine.specs.replay.DayStep.{day_after_order, day_after_orders, day_step}
use Rattle.register_machine.specs.replay.Dividend.{cash_dividend_trade, day_after_class, day_after_dividend, day_after_dividends, day_after_rate, dividend_trade, keys_of_class}
use Rattle.register_machine.specs.replay.Letter.{day_after_letter_end, day_after_letter_ends, keys_of_letters_over, letter_end_trade}
use Rattle.register_machine.specs.replay.Positions.{Register, position_at}
use Rattle.register_machine.specs.replay.Replay.{Priced, day_after_sheet, first_day, orders_on, priced_orders, replay}
use Rattle.register_machine.specs.replay.Trades.{Day, order_trade}
use Rattle.share_lots.proofs.LotLemmas.{AllPairs-head, AllPairs-tail}

-- a trade is on the sheet of a number
abbrev IsOn : ℕ → Trade → Type 0
IsOn number trade = trade.sheet ≡ number

-- a day adds trades of one sheet behind those before
record Adds (number : ℕ) (before after : List Trade) : Type 0 where
  pub more : List Trade
  pub is : after ≡ before ++ more
  pub on : All (IsOn number) more

adds-nothing : (number : ℕ) (trades : List Trade) → Adds number trades trades
adds-nothing number trades = record { more = []; is = sym (append-nil trades); on = All-nil (IsOn number) }

adds-then : (number : ℕ) (a b c : List Trade) → Adds number a b → Adds number b c → Adds number a c
adds-then number a b c first second = record {
  more = first.more ++ second.more;
  is = second.is ∙ (ap (λ xs. xs ++ second.more) first.is ∙ append_assoc a first.more second.more);
  on = All-append (IsOn number) first.more second.more first.on second.on;
}

elected-on : (sheet : Sheet) (row : OrderRow) (in_cash : Bool) → IsOn sheet.number (elected_by sheet row in_cash)
elected-on sheet row true = refl
elected-on sheet row false = refl

on-sheet : (book : Book) (sheet : Sheet) (register : Register) (turn : Turn book sheet register) → All (IsOn sheet.number) (trades_added book sheet register turn)
on-sheet book sheet register Turn.Nothing = All-nil (IsOn sheet.number)
on-sheet book sheet register (Turn.Unfilled row why) =
    All-one (IsOn sheet.number) (record (trade_of sheet row) { outcome = Outcome.Unfilled why }) refl
on-sheet book sheet register (Turn.Bought row gross split is none_open) =
    All-one (IsOn sheet.number) (bought_by sheet row gross split) refl
on-sheet book sheet register (Turn.Noted row gross split letter is so) =
    All-one (IsOn sheet.number) (bought_by sheet row gross split) refl
on-sheet book sheet register (Turn.Reached row gross split letter is so) =
    All-cons (IsOn sheet.number) (bought_by sheet row gross split) (reached_by sheet register row ∷ []) refl
    (All-one (IsOn sheet.number) (reached_by sheet register row) refl)
on-sheet book sheet register (Turn.Sold row asked is) =
    All-one (IsOn sheet.number) (sold_by book sheet register row asked) refl
on-sheet book sheet register (Turn.Exchanged row to asked is) =
    All-one (IsOn sheet.number) (exchanged_by sheet register row to asked) refl
on-sheet book sheet register (Turn.Elected row in_cash is) =
    All-one (IsOn sheet.number) (elected_by sheet row in_cash) (elected-on sheet row in_cash)
on-sheet book sheet register (Turn.Begun row amount is) =
    All-one (IsOn sheet.number) (record (order_trade sheet row.order TradeKind.Letter) { cash = amount }) refl
on-sheet book sheet register (Turn.Paid key cash) =
    All-one (IsOn sheet.number) (cash_dividend_trade sheet (position_at register key) cash) refl
on-sheet book sheet register (Turn.Reinvested key cash mils room) =
    All-one (IsOn sheet.number) (dividend_trade sheet (position_at register key) cash mils) refl
on-sheet book sheet register (Turn.Ended key letter is) =
    All-one (IsOn sheet.number) (letter_end_trade sheet (position_at register key) (settled_by book sheet (position_at register key) letter)) refl

-- so does each turn
turn-adds : (book : Book) (sheet : Sheet) (day after : Day) (turn : Turn book sheet day.register) → day_after_turn book sheet day turn ≡ after → Adds sheet.number day.trades after.trades
turn-adds book sheet day after turn is =
    subst (λ (d : Day). Adds sheet.number day.trades d.trades) is
    (record { more = trades_added book sheet day.register turn; is = refl; on = on-sheet book sheet day.register turn })

-- and so do many
fold-adds : {X : Type 0} (number : ℕ) (step : Day → X → Day) → ((day : Day) (x : X) → Adds number day.trades (step day x).trades) → (xs : List X) (day : Day) → Adds number day.trades (fold step day xs).trades
fold-adds number step adds [] day = adds-nothing number day.trades
fold-adds number step adds (x ∷ xs) day =
    adds-then number day.trades (step day x).trades (fold step (step day x) xs).trades (adds day x) (fold-adds number step adds xs (step day x))

class-adds : (book : Book) (sheet : Sheet) (day : Day) (price : ℕ × ℕ) → Adds sheet.number day.trades (day_after_class book.rates sheet day price).trades
class-adds book sheet day price =
    elim (rate_at book.rates price.0 sheet.moment == 0) as (λ b. Adds sheet.number day.trades (cond b day (day_after_rate sheet (rate_at book.rates price.0 sheet.moment) price day)).trades) [
      | true ↦ adds-nothing sheet.number day.trades
      | false ↦
          let rate = rate_at book.rates price.0 sheet.moment in
          fold-adds sheet.number (day_after_dividend sheet rate price.1)
          (λ d key. let here = dividend-turns book sheet rate price.1 d key in turn-adds book sheet d (day_after_dividend sheet rate price.1 d key) here.turn here.is)
          (keys_of_class price.0 day.register) day
    ]

step-adds : (book : Book) (sheet : Sheet) (rows : List OrderRow) (day : Day) → Adds sheet.number day.trades (day_step book sheet rows day).trades
unfolding day_step
step-adds book sheet rows day =
    let paid = day_after_dividends book sheet day in
    let ended = day_after_letter_ends book sheet paid in
    adds-then sheet.number day.trades paid.trades (day_after_orders book sheet rows ended).trades
    (fold-adds sheet.number (day_after_class book.rates sheet) (class-adds book sheet) sheet.prices day)
    (adds-then sheet.number paid.trades ended.trades (day_after_orders book sheet rows ended).trades
    (fold-adds sheet.number (day_after_letter_end book sheet)
    (λ d key. let here = letter_end-turns book sheet d key in turn-adds book sheet d (day_after_letter_end book sheet d key) here.turn here.is)
    (keys_of_letters_over sheet paid.register) paid)
    (fold-adds sheet.number (day_after_order book sheet)
    (λ d row. let here = order-turns book sheet d row in turn-adds book sheet d (day_after_order book sheet d row) here.turn here.is)
    rows ended))

-- ---- behind one another

-- trades up to a sheet and then trades of a later one never fall
same-sheet : (number : ℕ) (more : List Trade) → All (IsOn number) more → NeverFall more
same-sheet number more on i j d lt short =
    let a = on i d (omega (arith, lt, short)) in
    let b = on j d short in
    omega (arith, a, b)

never-append : (number : ℕ) (before more : List Trade) → NeverFall before → All (λ trade. trade.sheet < number) before → All (IsOn number) more → NeverFall (before ++ more)
never-append number [] more never low on = same-sheet number more on
never-append number (t ∷ ts) more never low on =
    let first = All-head (λ (trade : Trade). trade.sheet < number) t ts low in
    AllPairs-cons (λ (a b : Trade). a.sheet ≤ b.sheet) t (ts ++ more)
    (All-append (λ (later : Trade). t.sheet ≤ later.sheet) ts more (AllPairs-head (λ (a b : Trade). a.sheet ≤ b.sheet) t ts never)
    (All-weaker (IsOn number) (λ (later : Trade). t.sheet ≤ later.sheet) (λ later is. omega (arith, first, is)) more on))
    (never-append number ts more (AllPairs-tail (λ (a b : Trade). a.sheet ≤ b.sheet) t ts never) (All-tail (λ (trade : Trade). trade.sheet < number) t ts low) on)

sheets-never_fall : (book : Book) (priced : List Priced) (first : ℕ) (sheets : List Sheet) (day : Day) → NumberedFrom first sheets → NeverFall day.trades → All (λ trade. trade.sheet < first) day.trades → NeverFall (fold (day_after_sheet book priced) day sheets).trades
sheets-never_fall book priced first [] day numbered never low = never
sheets-never_fall book priced first (sheet ∷ sheets) day numbered never low =
    let number = numbered-first first sheet sheets numbered in
    let adds = step-adds book sheet (orders_on priced sheet) day in
    let on = subst (λ n. All (IsOn n) adds.more) number adds.on in
    sheets-never_fall book priced (suc first) sheets (day_after_sheet book priced day sheet) (numbered-rest first sheet sheets numbered)
    (subst NeverFall (sym adds.is) (never-append first day.trades adds.more never low on))
    (subst (All (λ (trade : Trade). trade.sheet < suc first)) (sym adds.is)
    (All-append (λ (trade : Trade). trade.sheet < suc first) day.trades adds.more
    (All-weaker (λ (trade : Trade). trade.sheet < first) (λ (trade : Trade). trade.sheet < suc first) (λ trade lower. omega (arith, lower)) day.trades low)
    (All-weaker (IsOn first) (λ (trade : Trade). trade.sheet < suc first) (λ trade is. omega (arith, is)) adds.more on)))

pub replay-never_falls : (book : Book) → AreNumbered book.table.sheets → NeverFall (replay book).trades
unfolding replay
replay-never_falls book numbered =
    sheets-never_fall book (priced_orders book) 1 book.table.sheets first_day (λ place d short. numbered.each place d short)
    (λ i j d lt short. absurd (omega (arith, short))) (All-nil (λ (trade : Trade). trade.sheet < 1))
