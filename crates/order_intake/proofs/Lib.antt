-- The lemmas of this crate, file by file.
pub mod Places
pub mod Contents
pub mod Once
pub mod Repeated
pub mod Loads
pub mod LawfulFits
