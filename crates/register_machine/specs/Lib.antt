-- The reading order of the whole register, chapter by chapter.
-- the journal: what happened, in order, what its events say, and who sees which of them
pub mod journal
-- prices and orders as they stand after all corrections
pub mod pricing
-- what a sheet does to the shares of all holders, and the replay of all sheets
pub mod replay
-- cash, gains and losses, and who pays
pub mod corrections
-- who may ask what, and what a request is refused for
pub mod rules
-- what the register shows
pub mod queries
-- the machine: from a request to its answer, and from a script to its lines
pub mod run
