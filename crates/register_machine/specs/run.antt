-- The machine: from a request to its answer, and from a script to its lines.
-- the reply to an event
pub mod Replies
-- the verdict on a request, but for what a correction breaks
pub mod Verdicts
-- the answer, and what is appended
pub mod Answers
-- a dealer's batch of lines
pub mod Batches
-- a run over a script
pub mod Scripts
