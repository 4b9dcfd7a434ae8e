-- The definitions of this crate, file by file.
pub mod Lots
pub mod Tally
pub mod Taking
pub mod Values
pub mod Rows
