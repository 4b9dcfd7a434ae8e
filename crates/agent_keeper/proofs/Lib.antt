-- The lemmas of this crate, file by file.
pub mod Contents
pub mod CopyLemmas
pub mod PackedFacts
