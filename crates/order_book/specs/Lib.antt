-- What the book of orders is, to those who read it: its journal with spare room, and what each look-up gives of the journal.
pub mod Books
pub mod Brought
pub mod Indexes
pub mod Kept
pub mod LastPlaces
pub mod Orders
pub mod Numbers
pub mod AllIndexes
pub mod BookKeeps
pub mod FitsNext
pub mod Trials
pub mod HashNumbers
