-- words for scripts, and for the members of JSON bodies
pub mod WorkedRuns
pub mod WorkedMembers
-- positions with their lots, and what a load sends
pub mod WorkedLots
