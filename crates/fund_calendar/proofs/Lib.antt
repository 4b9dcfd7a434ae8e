-- The lemmas of this crate, file by file.
pub mod DateLemmas
pub mod JiffLemmas
pub mod InstantLemmas
pub mod ScheduleLemmas
pub mod LookUpLemmas
pub mod ListFacts
pub mod AnniversaryLemmas
pub mod AnniversaryCounts
