-- The definitions of this crate, file by file.
pub mod Numbers
