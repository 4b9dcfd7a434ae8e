-- The lemmas of this crate, file by file.
pub mod ShortStreams
pub mod AnswerFacts
pub mod BatchFacts
pub mod RunFacts
pub mod ServingFacts
pub mod CountFacts
pub mod StepFacts
pub mod GoingFacts
pub mod UnkeptTexts
pub mod LawfulRuns
