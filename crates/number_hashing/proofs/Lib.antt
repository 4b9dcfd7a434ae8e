-- The lemmas of this crate, file by file.
pub mod NumberBytes
