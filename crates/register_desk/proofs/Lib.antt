-- The lemmas of this crate, file by file.
pub mod RowsOfJournals
pub mod GoodRows
pub mod RowByRow
pub mod KeysOfDealers
pub mod DesksGoOn
pub mod LinesInRows
pub mod BoundsGoOn
pub mod LoadsOfClasses
-- a look names an account that stands
pub mod LooksName
-- a number put in its place
pub mod NumbersPlaced
-- the numbers of the tables are those of the journal's classes
pub mod ClassNumbers
-- the dealers, one by one
pub mod DealersGathered
-- what is kept of a household
pub mod HouseholdParts
-- cash is moved of the holders of accounts alone
pub mod OtherHolders
-- the books as they are kept are those of the journal
pub mod BooksOfParties
-- a statement is told by what is kept of the household
pub mod StatementsTold
-- an order is traced among its household's trades
pub mod OrdersTraced
-- replies to events
pub mod EventsAnswered
-- what a verdict tells
pub mod Verdicts
-- the answer to the event that a request brings
pub mod FreshAnswers
-- an event that is asked for again
pub mod AskedAgain
-- the answer and its steps, by the verdict
pub mod AnswersByVerdict
-- the households that an event reaches are among the journal's
pub mod CountedHouseholds
-- the steps of an event, by how many households it reaches
pub mod StepsCounted
-- the steps of an event that is asked again
pub mod StepsAgain
-- the books behind the order of a line
pub mod LinesNoted
-- the orders of lines noted one behind the other
pub mod OneByOne
