-- What one sheet does to the register: its trades. An order on a sheet is filled, or it is unfilled for the first of the
-- reasons that holds.
use Rattle.std.specs.Prelude.{List, None, Option, Some, [], ℕ, ◌++◌, ◌∷◌, unwrap_or}
use Rattle.agent_events.specs.declared.order.Order.{Order}
use Rattle.agent_events.specs.declared.trade.Outcome.{Outcome}
use Rattle.agent_events.specs.declared.trade.Trade.{Trade}
use Rattle.agent_events.specs.declared.trade.TradeKind.{TradeKind}
use Rattle.agent_events.specs.declared.trade.Why.{Why}
use Rattle.forward_price.specs.Sheets.{nav_on}
use Rattle.forward_price.specs.declared.price_sheet.Sheet.{Sheet}
use Rattle.register_machine.specs.journal.Choices.{first_some}
use Rattle.register_machine.specs.pricing.OrderClasses.{class_of, target_of}
use Rattle.register_machine.specs.replay.Positions.{Position, Register, put}

-- a trade of an account and class without an order
abbrev pub plain_trade : Sheet → ℕ → ℕ → TradeKind → Trade
plain_trade sheet account class kind = record {
  sheet = sheet.number;
  moment = sheet.moment;
  day = sheet.day;
  account = account;
  ref_no = 0;
  kind = kind;
  outcome = Outcome.Filled;
  class = class;
  to_class = 0;
  price = 0;
  mils = 0;
  to_mils = 0;
  cash = 0;
  charge = 0;
}

-- and with one
abbrev pub order_trade : Sheet → Order → TradeKind → Trade
order_trade sheet order kind =
    record (plain_trade sheet order.account (class_of order.body) kind) {
      ref_no = order.ref_no;
      to_class = unwrap_or (target_of order.body) 0;
    }

-- the register and the trades so far, within one sheet or over many
pub record Day : Type 0 where
  pub register : Register
  pub trades : List Trade

abbrev pub with_trade : Day → Trade → Day
with_trade day trade = record { register = day.register; trades = day.trades ++ trade ∷ [] }

abbrev pub with_position : Day → Position → Day
with_position day position = record { register = put position day.register; trades = day.trades }

-- a trade that leaves this position
abbrev pub day_after_trade : Day → Position → Trade → Day
day_after_trade day position trade = with_trade (with_position day position) trade

-- the order is unfilled for the first reason that holds, else it is done
abbrev pub day_unless : Option Why → Day → Trade → Day → Day
day_unless None day trade done = done
day_unless (Some why) day trade done = with_trade day (record trade { outcome = Outcome.Unfilled why })

abbrev pub day_unless_any : List (Option Why) → Day → Trade → Day → Day
day_unless_any reasons day trade done = day_unless (first_some reasons) day trade done

-- the net asset value of a class on a sheet
abbrev pub nav_of : Sheet → ℕ → ℕ
nav_of sheet class = unwrap_or (nav_on sheet.prices class) 0
