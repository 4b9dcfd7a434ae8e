-- the totals: outstanding shares and cash by trades
pub mod Totals
-- a household's part of the ledger, and where it is looked up
pub mod Parts
-- what a change makes of a household's part
pub mod Moves
-- what a sheet makes of all households
pub mod Sheets
-- what the moves of households change of the totals
pub mod Differences
-- what a replay makes of one household
pub mod Reopenings
-- the totals are the sums over all trades
pub mod Tallied
-- one household from sheet to sheet
pub mod Replays
-- orders under numbers that never fall, and the numbers that they have
pub mod NumberedRows
-- what a replay asks
pub mod Premises
-- the steps of a replay
pub mod BusySheets
-- the states that are kept of a household
pub mod KeptStates
