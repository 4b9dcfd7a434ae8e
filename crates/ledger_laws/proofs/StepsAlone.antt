-- A step only appends its trades, and doesn't read those before it.
use Rattle.std.proofs.Common.{List, [], ap, append_assoc, append-nil, cond, fold, map, refl, subst, sym, true, false, ℕ, ◌++◌, ◌==◌, ◌∙◌, ◌∷◌, ◌≡◌}
use Rattle.std.proofs.lemmas.List.Folds.{fold_along}
use Rattle.agent_events.specs.declared.order.OrderRow.{OrderRow}
use Rattle.agent_events.specs.declared.trade.Trade.{Trade}
use Rattle.forward_price.specs.declared.price_sheet.Sheet.{Sheet}
use Rattle.household_fold.specs.Households.{first_of, orders_of, row_of}
use Rattle.register_laws.proofs.AlikeDays.{Alike, dividends-alike, letter_ends-alike, orders-alike}
use Rattle.register_laws.proofs.ReplayedAlone.{AnyClass, any-body}
use Rattle.register_machine.specs.pricing.CorrectedBook.{Book}
use Rattle.register_machine.specs.pricing.DividendRates.{rate_at}
use Rattle.register_machine.specs.replay.DayStep.{day_after_order, day_after_orders, day_step}
use Rattle.register_machine.specs.replay.Dividend.{day_after_class, day_after_dividend, day_after_dividends, day_after_rate, keys_of_class}
use Rattle.register_machine.specs.replay.Letter.{day_after_letter_end, day_after_letter_ends, keys_of_letters_over}
use Rattle.register_machine.specs.replay.Positions.{PositionKey, Register, position_of, put}
use Rattle.register_machine.specs.replay.Purchase.{credit_of}
use Rattle.register_machine.specs.replay.Trades.{Day}

-- a day with the same register and these trades before its own
record IsBehind (before : List Trade) (day alone : Day) : Type 0 where
  register : day.register ≡ alone.register
  trades : day.trades ≡ before ++ alone.trades

module _ (book : Book) (sheet : Sheet) (before : List Trade) where
  behind-alike : (account : ℕ) → Alike book book sheet sheet.prices account AnyClass (IsBehind before)
  behind-alike account = record {
    nav = λ class _. refl;
    front = λ class _. refl;
    schedule = λ class _. refl;
    found = λ d e class _ is. ap (λ (r : Register). position_of r account class) is.register;
    credit = λ d e is. ap (λ (r : Register). credit_of book sheet r account) is.register;
    traded = λ d e trade _ is. record {
      register = is.register;
      trades = ap (λ ts. ts ++ trade ∷ []) is.trades ∙ append_assoc before e.trades (trade ∷ []);
    };
    placed = λ d e p _ _ is. record { register = ap (put p) is.register; trades = is.trades };
  }

  keys-behind : (step : Day → PositionKey → Day) → ((d e : Day) (key : PositionKey) → IsBehind before d e → IsBehind before (step d key) (step e key)) → (keys : Register → List PositionKey) → (d e : Day) → IsBehind before d e → IsBehind before (fold step d (keys d.register)) (fold step e (keys e.register))
  keys-behind step steps keys d e is =
      subst (λ (r : Register). IsBehind before (fold step d (keys d.register)) (fold step e (keys r))) is.register
      (fold_along step step (IsBehind before) steps d e (keys d.register) is)

  class-behind : (d e : Day) (price : ℕ × ℕ) → IsBehind before d e → IsBehind before (day_after_class book.rates sheet d price) (day_after_class book.rates sheet e price)
  class-behind d e price is = by_rate (rate_at book.rates price.0 sheet.moment)
    where
      by_rate : (rate : ℕ) → IsBehind before (cond (rate == 0) d (day_after_rate sheet rate price d)) (cond (rate == 0) e (day_after_rate sheet rate price e))
      by_rate rate = elim (rate == 0) as (λ b. IsBehind before (cond b d (day_after_rate sheet rate price d)) (cond b e (day_after_rate sheet rate price e))) [
        | true ↦ is
        | false ↦ keys-behind (day_after_dividend sheet rate price.1)
            (λ one two key both. dividends-alike book book sheet sheet.prices key.account AnyClass (IsBehind before) (behind-alike key.account) rate price.1 one two key refl tt both)
            (keys_of_class price.0) d e is
      ]

  step-behind : (rows : List OrderRow) (d e : Day) → IsBehind before d e → IsBehind before (day_step book sheet rows d) (day_step book sheet rows e)
  unfolding day_step
  step-behind rows d e is =
      let paid = fold_along (day_after_class book.rates sheet) (day_after_class book.rates sheet) (IsBehind before) (λ one two price both. class-behind one two price both) d e sheet.prices is in
      let ended = keys-behind (day_after_letter_end book sheet)
      (λ one two key both. letter_ends-alike book book sheet sheet.prices key.account AnyClass (IsBehind before) (behind-alike key.account) one two key refl tt both)
      (keys_of_letters_over sheet) (day_after_dividends book sheet d) (day_after_dividends book sheet e) paid in
      fold_along (day_after_order book sheet) (day_after_order book sheet) (IsBehind before)
      (λ one two row both. orders-alike book book sheet sheet.prices row.order.account AnyClass (IsBehind before) (behind-alike row.order.account) one two row refl (any-body row) both)
      (day_after_letter_ends book sheet (day_after_dividends book sheet d)) (day_after_letter_ends book sheet (day_after_dividends book sheet e)) rows ended

-- a step from a day, and from its register with no trades
pub step-alone : (book : Book) (sheet : Sheet) (rows : List OrderRow) (day : Day) → day_step book sheet rows day ≡ record { register = (day_step book sheet rows (first_of day.register)).register; trades = day.trades ++ (day_step book sheet rows (first_of day.register)).trades }
step-alone book sheet rows day =
    let is = step-behind book sheet day.trades rows day (first_of day.register) (record { register = refl; trades = sym (append-nil day.trades) }) in
    let after = day_step book sheet rows day in
    ap (λ (r : Register). record { register = r; trades = after.trades }) is.register
    ∙ ap (λ (ts : List Trade). record { register = (day_step book sheet rows (first_of day.register)).register; trades = ts }) is.trades

-- of the rows of orders a step reads the orders alone
orders-alone : (book : Book) (sheet : Sheet) (rows : List OrderRow) (day : Day) → day_after_orders book sheet (map row_of (orders_of rows)) day ≡ day_after_orders book sheet rows day
orders-alone book sheet [] day = refl
orders-alone book sheet (row ∷ rows) day = orders-alone book sheet rows (day_after_order book sheet day row)

pub rows-alone : (book : Book) (sheet : Sheet) (rows : List OrderRow) (day : Day) → day_step book sheet (map row_of (orders_of rows)) day ≡ day_step book sheet rows day
unfolding day_step
rows-alone book sheet rows day = orders-alone book sheet rows (day_after_letter_ends book sheet (day_after_dividends book sheet day))
