-- What a sheet does to the shares of all holders, and the replay of all sheets.
-- who owns which shares: positions by account and class
pub mod Positions
-- a trade and its outcome, and the day that goes on
pub mod Trades
-- the shares that a trade brings a class, and those that it takes
pub mod Movements
-- a purchase: its rate, its split, its lot, and what a letter holds of it
pub mod Purchase
-- a redemption, with its deferred charge
pub mod Redemption
-- an exchange within a family
pub mod Exchange
-- the dividends of a sheet, in shares or in cash
pub mod Dividend
-- letters of intent: one that begins, and those that end by date
pub mod Letter
-- one sheet: dividends, letters that end, orders
pub mod DayStep
-- all sheets in turn, from the empty register
pub mod Replay
