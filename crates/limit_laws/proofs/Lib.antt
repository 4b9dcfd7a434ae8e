-- counts over lists
pub mod Counting
-- how many accounts, orders and listings a lawful journal has
pub mod FewThings
-- how many positions a class has
pub mod FewPositions
-- the trades of an order's turn
pub mod SmallTurns
-- trades that are added behind others
pub mod AddedTrades
-- the trades of a sheet's phases
pub mod SheetTrades
-- the trades of all sheets
pub mod ReplayedTrades
-- what all trades move together
pub mod AllMoved
-- sums by keys that differ
pub mod KeyedSums
-- changes between two replays
pub mod ChangesFit
-- the gains of a correction
pub mod GainsFit
-- the book of a lawful journal
pub mod LawfulWithin
-- events that fit a post, and what is booked
pub mod PostsFit
-- the rows of a tally
pub mod TallyRows
-- what is read from a text is in its form
pub mod ReadInForm
-- every script's run
pub mod RunsInForm
-- what is answered behind a full journal
pub mod AnsweredWhenFull
-- the price of each trade
pub mod PricedByKind
