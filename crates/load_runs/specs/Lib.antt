-- The reading order.
-- the names of orders as they were begun
pub mod OrderNames
-- what the operator sees at the end of a journal
pub mod Looks
-- how far a load has run
pub mod Running
-- a summary as the program holds it
pub mod Seen
