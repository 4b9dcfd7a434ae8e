-- The definitions of this crate, file by file.
pub mod Fields
pub mod Forms
pub mod Events
pub mod Contents
pub mod VerbForms
pub mod OrderForms
pub mod Items
pub mod Calendars
pub mod AnswerTexts
pub mod JsonForms
-- the numbers of a bearer and of what an order does, as many for each
pub mod Parts
-- one row of a table of loads, and one price of a sheet
pub mod ContentFields
