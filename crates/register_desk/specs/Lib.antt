-- the rows of a journal, and the first row that is none of one
pub mod Rows
-- what a prepared answer holds
pub mod PreparedAnswers
-- what a store gave when it was opened
pub mod Opening
-- what a prepared batch holds
pub mod PreparedBatches
-- how many steps the opening of a store takes at most
pub mod OpeningBounds
-- what is asked and what is answered
pub mod Replies
-- what stands of the accounts that a look names
pub mod NamedAccounts
-- the numbers of classes and dealers as they are gathered
pub mod GatheredNumbers
-- what the books answer to a request
pub mod Answered
-- the answer to an event that a request brings
pub mod Fresh
-- how many steps an answer takes
pub mod Steps
-- how many steps an event takes at most
pub mod StepBounds
-- an event that is asked for again
pub mod Asked
-- when the orders of lines are ready to be noted in the books
pub mod ReadyLines
