-- a row put in its place, and that the tables stay in order
pub mod PutRows
pub mod StandingTables
-- what is found then, how many rows there are, and the tables of a journal with one event more
pub mod RowsFound
pub mod EventTables
-- what a step reads of a lawful journal's tables
pub mod SheetsOfJournals
pub mod PricedSheets
pub mod ServedFacts
-- the events of a lawful journal change its prices
pub mod LawfulChanges
-- the list of a sheet rises
pub mod Forms
