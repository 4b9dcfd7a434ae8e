-- a household's steps by facts, and its part of the replay
pub mod PartsByFacts
-- orders under the numbers of their sheets, and of their households
pub mod OrderRows
-- books that a household's steps can meet, and tables of facts that give one
pub mod SoundBooks
-- the book of a correction on trial
pub mod TrialBooks
-- whose a part is, what it keeps within limits, and that each of its steps can be taken
pub mod OwnedByAccounts
-- the outstanding mils of a class by its trades
pub mod ClassTotals
-- which parts are a ledger of a book, and which events leave them one
pub mod Ledgers
-- facts that have all that a household's replay reads of a book
pub mod BookFacts
-- tables of journals whose facts serve their books
pub mod TableFacts
-- what a sheet makes of a ledger
pub mod SheetLedgers
-- what a correction makes of a ledger
pub mod CorrectedLedgers
-- the totals of a ledger, and by how much they differ between two
pub mod LedgerTotals
-- what kept states are to a book, and what leaves them so
pub mod KeptOfBooks
