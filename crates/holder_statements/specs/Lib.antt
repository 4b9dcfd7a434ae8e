-- a line that grows word by word
pub mod Words
-- the trades of a period among all trades
pub mod Periods
-- the holdings of an account, class by class
pub mod Holdings
-- what a statement reads of books and days
pub mod Alike
-- the statements of a lawful journal
pub mod LawfulStatements
-- what an account holds, found class by class
pub mod AccountPositions
-- what became of an order, found on its sheet
pub mod OrderTraces
-- between which places the trades of a sheet stand
pub mod SheetPlaces
-- what the reply to an event reads of the journal before it
pub mod EventReplies
-- the books as they are kept, and what they keep
pub mod KeptBooks
-- what a look reads of one household's part
pub mod HouseholdLooks
