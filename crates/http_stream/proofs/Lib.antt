-- The lemmas of this crate, file by file.
pub mod LineLaws
pub mod ScanLaws
pub mod FrontLaws
pub mod HeadLaws
pub mod FieldLaws
pub mod MoreLaws
pub mod LookLaws
pub mod ItemLaws
pub mod HeadLines
