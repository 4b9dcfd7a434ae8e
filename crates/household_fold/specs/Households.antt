-- A household's own accounts and orders, and what a step over them leaves.
use Rattle.std.specs.Prelude.{All, IfSome, List, Some, [], false, fold, is_some, map, true, ℕ, ◌≡◌}
use Rattle.agent_events.specs.declared.order.Body.{Body}
use Rattle.agent_events.specs.declared.order.Order.{Order}
use Rattle.agent_events.specs.declared.order.OrderRow.{OrderRow}
use Rattle.agent_events.specs.declared.trade.Trade.{Trade}
use Rattle.household_fold.specs.Facts.{IsListed, Known, book_of_facts, sheet_at_hand, terms_numbered}
use Rattle.register_machine.specs.journal.Kinds.{household_of}
use Rattle.register_machine.specs.pricing.OrderClasses.{class_of, target_of}
use Rattle.register_machine.specs.replay.DayStep.{day_after_body, day_step}
use Rattle.register_machine.specs.replay.Positions.{Register}
use Rattle.register_machine.specs.replay.Trades.{Day}

-- a household's number, and the positions of its accounts
pub record Household : Type 0 where
  pub number : ℕ
  pub register : Register

-- an account of the household, and a class that has its terms
pub record IsOwnPlace (known : Known) (household account class : ℕ) : Type 0 where
  pub owner : household_of (book_of_facts known).accounts account ≡ Some household
  pub terms : is_some (terms_numbered known.terms class) ≡ true

-- all positions are of the household's accounts
abbrev pub AreOwned : Known → ℕ → Register → Type 0
AreOwned known household register =
    All (λ position. IsOwnPlace known household position.account position.class) register

-- the sheet at hand lists the class that an exchange goes to
abbrev pub IsTargetListed : Known → Body → Type 0
IsTargetListed known body = IfSome (target_of body) (IsListed known)

-- an order of one of its accounts, on the sheet at hand: the sheet lists all its classes
pub record IsOrderOf (known : Known) (household : ℕ) (order : Order) : Type 0 where
  pub owner : household_of (book_of_facts known).accounts order.account ≡ Some household
  pub listed : IsListed known (class_of order.body)
  pub target : IsTargetListed known order.body

abbrev pub AreOrdersOf : Known → ℕ → List Order → Type 0
AreOrdersOf known household orders = All (IsOrderOf known household) orders

-- what an order makes of the day, by the facts
abbrev pub order_known : Known → Day → Order → Day
order_known known day order = day_after_body (book_of_facts known) (sheet_at_hand known) day order order.body

-- orders one after another
abbrev pub orders_known : Known → List Order → Day → Day
orders_known known orders day = fold (order_known known) day orders

-- the row of an order, of which a step reads the order alone
abbrev pub row_of : Order → OrderRow
row_of order = record { place = 0; receipt = 0; struck = false; order = order }

-- the orders of rows
abbrev pub orders_of : List OrderRow → List Order
orders_of rows = map (λ row. row.order) rows

-- the day of a register that begins
abbrev pub first_of : Register → Day
first_of register = record { register = register; trades = [] }

-- one sheet over a register, with these orders in turn
abbrev pub step_known : Known → List Order → Register → Day
step_known known orders register =
    day_step (book_of_facts known) (sheet_at_hand known) (map row_of orders) (first_of register)

-- the household that it leaves, and its trades
abbrev pub household_after : Known → List Order → Household → Household
household_after known orders household =
    record { number = household.number; register = (step_known known orders household.register).register }

abbrev pub trades_after : Known → List Order → Household → List Trade
trades_after known orders household = (step_known known orders household.register).trades
