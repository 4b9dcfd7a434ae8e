-- the row of each event, kind by kind
pub mod Rows
-- which events have a row
pub mod InForm
-- the reader of each kind
pub mod Reading
-- a row of each kind, byte for byte
pub mod Worked
-- how much an event holds
pub mod Sizes
-- how numbers, texts and lists stand in a row
pub mod Spelling
-- the range of each field
pub mod Ranges
-- the value at the front of the bytes and what is left, or nothing
pub mod FieldReading
-- the reader of each field
pub mod Readers
-- a field: it reads its own spelling, whatever follows, and nothing else
pub mod Exact
