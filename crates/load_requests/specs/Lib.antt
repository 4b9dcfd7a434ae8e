-- The reading order.
-- how a load begins
pub mod Opening
-- what is drawn, and what a day brings
pub mod Draws
pub mod Days
-- all requests of a load, and what is still to come of them at each stage
pub mod Requests
pub mod ToCome
-- the machine's run over them, and its summary
pub mod Runs
pub mod Summaries
-- loads as examples
pub mod WorkedLoads
