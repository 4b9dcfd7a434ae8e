-- The lemmas of this crate, file by file.
pub mod CalendarFacts
pub mod CountFacts
pub mod LoadOnLiterals
pub mod NumberFacts
pub mod PricingFacts
pub mod ProgressFacts
pub mod StageFacts
pub mod TurnFacts
