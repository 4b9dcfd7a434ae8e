-- The lemmas of this crate, file by file.
pub mod ListItems
pub mod SumFacts
pub mod KeyOrder
pub mod FilterFacts
pub mod FoundFacts
pub mod PutAgain
pub mod PaymentsMore
pub mod OnLiterals
