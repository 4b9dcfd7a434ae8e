-- the moves that are left still fit, when one was made
mod PartFacts
-- the moves of a sheet bring each household over the sheet
pub mod SheetMoves
-- the moves of a sheet are of different households
mod SheetApart
-- the numbers of orders, each once
mod MetNumbers
-- what holds of every household, at the part that a look-up finds
mod FoundParts
-- what changes of shares add up to
mod ShareFacts
-- the one move of a reopened household
pub mod ReopenedDay
-- what trades bring, summed over households, where one household is moved
pub mod FlowsOfMoves
-- the totals stay the sums over all trades
pub mod TalliedLaw
-- trades at the front that move the same change nothing
mod CommonFront
-- the moves of some parts are never more than those of all
mod StepCounts
-- what a search in numbers that never fall finds
pub mod SearchFacts
-- orders under numbers that never fall: those under one number stand together
pub mod NumberFacts
-- the numbers of rows, each once
pub mod MetFacts
-- what one sheet leaves of what a replay asks
pub mod PremiseFacts
-- days behind one another
pub mod DayFacts
-- the steps of a replay, and sheets that take none
pub mod StepFacts
-- the states that are kept of a household
pub mod StateFacts
