-- a row put in its place by number
pub mod Places
-- the tables, and what an event makes of them
pub mod Tables
-- what a prepared change makes of the tables
pub mod TableChanges
-- the tables of a journal, and what a step reads of them
pub mod TablesOfJournals
-- what an event changes in the price book, the room that it takes, and what it asks of the table
pub mod PriceChanges
-- the events of a lawful journal can change the book of its prices
pub mod LawfulChanges
