-- the books of no event
pub mod FirstBooks
-- the index of orders behind an event
pub mod IndexAfter
-- the households listed under classes behind an event
pub mod NotedAfter
-- the ledger behind an event
pub mod LedgerAfter
-- the cash book behind an event
pub mod CashAfter
-- the kept states behind an event
pub mod KeptAfter
-- the books behind an event
pub mod BooksAfter
-- books with more room
pub mod RoomMade
-- what moves a ledger with more room
pub mod MovesStay
-- the orders that an event names stand
pub mod NamedOrders
-- a sheet that is quiet by the book is quiet by the facts
pub mod QuietSheets
-- what a sheet on trial prices, what it makes of each household, and whom it reaches
pub mod SheetOnTrial
-- what a sheet on trial makes of the ledger, where it keeps the limits of a post
pub mod ChangeOnTrial
-- a sheet that is published in the books of the journal that it follows
pub mod SheetPublished
-- the part of a household that a sheet leaves alone
-- states that are kept behind the last sheet
pub mod KeptMoved
-- what holds of a correction on trial
pub mod FreshTrials
-- the facts that serve a correction on trial
pub mod ServedTrials
-- the orders of a correction on trial, under their sheets
pub mod TrialOrders
-- the households reopened so far, with one more
pub mod ReopenedMore
-- the least broken trade is the first of all
pub mod BrokenOfAll
-- every class that changes is one of the journal
pub mod ChangedClasses
-- what the trial of a correction makes of the ledger is what the correction does
pub mod TrialChange
-- what the steps of a correction's trial need
pub mod TrialSteps
-- states that are forgotten
pub mod ForgetFacts
-- where a replay begins, and what is left of the kept states
pub mod StartsServe
-- what the trial of a correction says
pub mod TrialSays
-- the trades of the one household that is moved
pub mod OneMoved
-- what the replay of one household makes
pub mod OneMore
-- the replay of one household from the start that is kept of it
pub mod ReopenedOne
-- the trades that stay break no order
pub mod KeptUnbroken
-- what a correction breaks first and whom it reaches, file by file
pub mod FilledNames
pub mod FirstOfAll
pub mod LeastTurn
pub mod NamedOwners
pub mod TrialNames
pub mod TurnsTold
pub mod UnreachedLeft
