-- What a reader of the orders of households sees, in this order.
-- places in a list: those where something passes, rising places, one more of them
pub mod Places
-- the rows of a book of orders with their households, and which of them wait
pub mod Rows
-- the chain of each household's orders, back from the last one
pub mod Chains
-- the households that have named each class
pub mod ClassHouseholds
-- the index as its readers see it
pub mod Index
-- what the index keeps
pub mod Kept
-- rows under numbers, on their way into orders
pub mod Entries
-- the orders of a sheet and those of a household, by the corrected book
pub mod Priced
-- what keeps the index enough
pub mod WaitingLaws
-- the index of a journal's orders, event by event
pub mod IndexOfJournals
-- the orders of a household that are settled up to a sheet, event by event
pub mod SettledOrders
