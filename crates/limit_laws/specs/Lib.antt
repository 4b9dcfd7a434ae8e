-- The reading order of the laws of the limits, from counts to sums.
-- the forms of fields that the laws ask of a journal's events
pub mod InForm
-- how many things of each kind there can be
pub mod Counts
-- a book whose prices, rates and counts are within the limits
pub mod Limited
-- the price of each trade, by its kind
pub mod TradePrices
-- how much one trade moves, and how many a sheet makes
pub mod SmallTrades
-- how much all trades move together
pub mod Moved
-- what a post may have, and that changes between two replays stay within it
pub mod Posts
-- every script's run stays within all limits
pub mod Runs
-- what a full journal answers
pub mod FullJournals
