-- The lemmas of this crate, file by file.
pub mod FlatLaws
pub mod FlatReads
pub mod MemberLaws
pub mod PartLaws
pub mod ShowLaws
pub mod StepLaws
pub mod FaultLaws
pub mod ObjectLaws
pub mod BuiltLaws
