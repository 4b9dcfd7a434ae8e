-- The lemmas of this crate, file by file.
pub mod StepsAlone
pub mod StepsAsPart
pub mod ReplaysAsPart
pub mod OrderRows
pub mod SheetBySheet
pub mod SoundBooks
pub mod OrdersAfter
pub mod TrialBooks
pub mod OwnedParts
pub mod PartLimits
pub mod EachStep
pub mod ClassTotals
-- the ledger of no event, and ledgers that events leave
pub mod LedgersOfBooks
-- a ledger over one sheet more
pub mod SheetAdvances
-- a ledger behind a correction
pub mod CorrectedParts
-- what moves bring and take back
pub mod SumsOfMoves
-- the trades of a ledger, household by household
pub mod SumsOverLedgers
-- books of households, and the owners of their trades
pub mod HouseholdBooks
-- by how much moves change the totals, told by the days that they leave
pub mod MovedDays
-- the totals of a ledger, and by how much they differ between two
pub mod LedgerTotals
-- the facts that serve the books of journals
pub mod ServedBooks
-- the moves that reopen households
pub mod Reopenings
-- a corrected price is that of one sheet
pub mod FixedPrices
-- kept states are what households came to, and events that leave them so
pub mod StatesStay
-- the trades behind a sheet come first among all
pub mod TradesLead
