-- The definitions of this crate, file by file.
pub mod Answers
pub mod Commits
pub mod Faults
pub mod Keeper
