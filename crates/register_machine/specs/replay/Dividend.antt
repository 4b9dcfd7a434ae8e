-- The dividends of a sheet: each class that has a rate on it pays on all positions in it, by class and then account.
use Rattle.std.specs.Prelude.{Bool, List, ℕ, ◌-◌, ◌==◌, filter, fold, if◌then◌else◌, map, true}
use Rattle.dividend_reinvest.specs.Dividend.{payment}
use Rattle.dividend_reinvest.specs.declared.payment.Payment.{Payment}
use Rattle.forward_price.specs.declared.price_sheet.Sheet.{Sheet}
use Rattle.share_lots.specs.Lots.{shares_added, cost_total, most_cost, most_mils}
use Rattle.register_machine.specs.pricing.CorrectedBook.{Book}
use Rattle.register_machine.specs.pricing.DividendRates.{Rates, rate_at}
use Rattle.register_machine.specs.replay.Positions.{Position, PositionKey, Register, key_of, mils_of, position_at, with_holding}
use Rattle.agent_events.specs.declared.trade.Trade.{Trade}
use Rattle.agent_events.specs.declared.trade.TradeKind.{TradeKind}
use Rattle.register_machine.specs.replay.Trades.{Day, day_after_trade, nav_of, plain_trade, with_trade}
use Rattle.dividend_reinvest.specs.declared.payment.Payment.TheVariants as pays

abbrev pub dividend_trade : Sheet → Position → ℕ → ℕ → Trade
dividend_trade sheet position cash mils =
    record (plain_trade sheet position.account position.class TradeKind.DividendShares) {
      price = nav_of sheet position.class;
      mils = mils;
      cash = cash;
    }

abbrev pub cash_dividend_trade : Sheet → Position → ℕ → Trade
cash_dividend_trade sheet position cash =
    record (plain_trade sheet position.account position.class TradeKind.DividendCash) { cash = cash }

-- what a payment does: reinvested cents join the free lot
abbrev pub day_after_payment : Sheet → Day → Position → Payment → Day
day_after_payment sheet day position pays.Nothing = day
day_after_payment sheet day position (pays.Cash cash) = with_trade day (cash_dividend_trade sheet position cash)
day_after_payment sheet day position (pays.Shares cash mils) =
    day_after_trade day (with_holding position (shares_added position.holding sheet.day mils cash true).holding)
    (dividend_trade sheet position cash mils)

-- all mils of a position are paid on, loose and held, and reinvested only where the position stays within its ceiling
abbrev pub payment_on : ℕ → ℕ → Position → Payment
payment_on rate nav position =
    payment (mils_of position.holding) rate nav position.in_cash (most_mils - mils_of position.holding)
    (most_cost - cost_total position.holding)

-- the position of a key is paid on as it stands when its turn comes
abbrev pub day_after_dividend : Sheet → ℕ → ℕ → Day → PositionKey → Day
day_after_dividend sheet rate nav day key =
    let position = position_at day.register key in day_after_payment sheet day position (payment_on rate nav position)

abbrev pub is_of_class : ℕ → Position → Bool
is_of_class class position = position.class == class

abbrev pub keys_of_class : ℕ → Register → List PositionKey
keys_of_class class register = map key_of (filter (is_of_class class) register)

-- a class with its net asset value pays this rate on all positions in it
abbrev pub day_after_rate : Sheet → ℕ → ℕ × ℕ → Day → Day
day_after_rate sheet rate price day =
    fold (day_after_dividend sheet rate price.1) day (keys_of_class price.0 day.register)

-- a class that has a rate on this sheet
abbrev pub day_after_class : Rates → Sheet → Day → ℕ × ℕ → Day
day_after_class rates sheet day price =
    let rate = rate_at rates price.0 sheet.moment in
    if rate == 0 then day else day_after_rate sheet rate price day

abbrev pub day_after_dividends : Book → Sheet → Day → Day
day_after_dividends book sheet day = fold (day_after_class book.rates sheet) day sheet.prices
