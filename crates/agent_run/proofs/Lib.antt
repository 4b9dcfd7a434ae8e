-- The lemmas of this crate, file by file.
pub mod Statuses
pub mod RunFacts
pub mod CommandBounds
pub mod EndsOfLoads
pub mod EndsOfServing
pub mod ServingFacts
-- the command that is handed to clap, and the rows of its matches
pub mod ClapRows
-- what clap makes of one word
pub mod ClapSteps
-- what clap makes of all the words
pub mod ClapLaws
