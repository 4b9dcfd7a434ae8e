-- the list of a sheet
pub mod Sheets
-- the best of those that pass a test
pub mod Choices
-- the price table: calendars, classes and sheets, the next price and the last one, and each change
pub mod PriceTables
-- whose turn it is: the due moment, the expected sheet, and what a sheet must list
pub mod Turns
-- price books that pass no pricing moment over
pub mod Orderly
-- what is true of a book as its code holds it
pub mod Kept
-- a table to try the definitions on
pub mod July
