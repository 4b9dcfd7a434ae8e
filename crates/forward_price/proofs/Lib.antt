-- The lemmas of this crate, file by file.
pub mod ChoiceFacts
pub mod TurnFacts
pub mod PatchFacts
pub mod NumberFacts
pub mod PricingFacts
pub mod SearchFacts
pub mod CompleteFacts
pub mod CloseFacts
pub mod OrderlyFacts
pub mod KeptFacts
pub mod OrderFacts
pub mod LawFacts
pub mod RoomFacts
pub mod BookFacts
