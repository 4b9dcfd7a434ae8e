-- the checkpoint row of a household, part by part
pub mod Rows
-- the rules and limits of a row
pub mod Rules
-- which states have a row
pub mod InForm
-- the reader of each part
pub mod Reading
-- states at their limits
pub mod WorkedStates
