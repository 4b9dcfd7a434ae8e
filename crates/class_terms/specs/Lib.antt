-- The definitions of this crate, file by file.
pub mod Tables
pub mod Checking
