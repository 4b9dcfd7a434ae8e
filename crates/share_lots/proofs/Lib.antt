-- The lemmas of this crate, file by file.
pub mod OrderLemmas
pub mod LotLemmas
pub mod RankedLemmas
pub mod PayingLemmas
pub mod KeptLemmas
pub mod PaidLemmas
pub mod RelationLemmas
pub mod ValueLemmas
pub mod AddedLemmas
pub mod RowLemmas
