-- One household from sheet to sheet, by the facts that its steps read.
use Rattle.agent_events.specs.declared.order.Order.{Order}
use Rattle.household_fold.specs.Facts.{Known}
use Rattle.household_fold.specs.Households.{step_known}
use Rattle.register_machine.specs.replay.Trades.{Day}
use Rattle.std.specs.Prelude.{List, filter, map, ℕ, ◌+◌, ◌++◌, ◌==◌, suc, zero}

-- an order under a number: that of its household, or that of the sheet that prices it
pub record NumberedOrder : Type 0 where
  pub number : ℕ
  pub order : Order

-- the orders under a number, in the order of a list
abbrev pub orders_under : ℕ → List NumberedOrder → List Order
orders_under number rows = map (λ row. row.order) (filter (λ row. row.number == number) rows)

-- the facts with another sheet at hand
abbrev pub known_on : Known → ℕ → Known
known_on known number = record known { sheet = number }

-- one sheet more over a household: what it leaves, and its trades behind the others
abbrev pub day_behind : Known → List Order → Day → Day
day_behind known orders day = record {
  register = (step_known known orders day.register).register;
  trades = day.trades ++ (step_known known orders day.register).trades;
}

-- so many sheets more, behind sheet `from`, with the orders under their numbers
abbrev pub days_behind : Known → List NumberedOrder → ℕ → ℕ → Day → Day
days_behind known rows from zero day = day
days_behind known rows from (suc count) day =
    days_behind known rows (from + 1) count
    (day_behind (known_on known (from + 1)) (orders_under (from + 1) rows) day)
