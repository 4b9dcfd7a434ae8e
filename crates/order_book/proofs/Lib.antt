-- The lemmas of this crate, file by file.
pub mod BookFound
pub mod BookNoted
pub mod BroughtFits
pub mod ChainWalk
pub mod IndexesTogether
pub mod KeysTaken
pub mod LookUps
pub mod Names
pub mod NumbersTaken
pub mod OrdersTaken
pub mod Places
pub mod SameIdentities
pub mod TakenIn
pub mod TrialRows
