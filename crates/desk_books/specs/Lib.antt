-- when the books are those of a journal
pub mod BooksOfJournals
-- what an event does to the index of orders
pub mod OrderChanges
-- when the households of orders are listed under their classes
pub mod NotedClasses
-- what a sheet or a correction makes of the ledger
pub mod LedgerChanges
-- when an event is ready to be noted in the books
pub mod ReadyChanges
-- books in which a sheet is published on trial
pub mod SheetTrials
-- the households that a sheet reaches, each of which takes one step
pub mod SheetReach
-- corrections that no rule before the last one refuses, and what their trial says
pub mod CorrectionTrials
-- what holds of a correction on trial
pub mod Fresh
-- the facts by which the households of a correction are replayed
pub mod Served
-- where the replay of a household begins
pub mod Starts
-- what the households reopened so far come to
pub mod Reopened
-- what the trial of a correction leaves of the kept states
pub mod Settled
-- what the trial of a correction makes of the ledger
pub mod Changed
-- the orders that were filled, by name
pub mod Filled
-- when the orders of trades are executed
pub mod Turns
-- the broken trade with the least turn
pub mod Least
-- the first order broken of all, by the parts of the households
pub mod FirstOfAll
-- the households whose standing orders name a class
pub mod Naming
-- the households that a correction reopens
pub mod HouseholdsReopened
