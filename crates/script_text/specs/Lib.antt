-- the records of a text and the line of a record
pub mod Rows
