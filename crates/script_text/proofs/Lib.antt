-- The lemmas of this crate, file by file.
pub mod RecordLaws
pub mod RecordsToCome
pub mod ItemLists
