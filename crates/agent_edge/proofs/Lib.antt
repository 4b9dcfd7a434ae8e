-- The lemmas of this crate, file by file.
pub mod ToldLemmas
pub mod LinkLemmas
pub mod TalkLemmas
