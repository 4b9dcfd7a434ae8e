-- The definitions of this crate, file by file.
pub mod Letters
pub mod Purchases
pub mod Cases
