-- The reading order of the laws: first those of requests and journals, and then those of replays.
-- which identities stand once in a journal
pub mod Identities
-- what an answer appends and says
pub mod Answers
-- what the events of a lawful journal met when they were appended
pub mod Lawful
-- which rule refuses a request, and that one which none refuses gets what it asks for
pub mod Completeness
-- what one event more does to what a journal says
pub mod OneEventMore
-- the journal behind a batch of a dealer's lines
pub mod LawfulBatches
-- what every lawful journal keeps within limits
pub mod LawfulLimits
-- price tables, the sheets of orders and their trades, and corrections
pub mod Priced
-- purchases and shares by trades, and what an orderly book is
pub mod Trades
-- the rate of each purchase, as the register stands at its turn
pub mod OrderTurns
pub mod PurchaseRates
-- what the register and the letters of a replay keep
pub mod ReplayKeeps
-- what an open letter has bought
pub mod LettersBought
-- the cash that each kind of trade moves
pub mod TradeCash
-- what the replay of a lawful journal keeps
pub mod LawfulReplays
-- all parties together hold nothing
pub mod CashBooks
-- what is read from a text fits a stored row
pub mod RowForms
-- what a lawful journal names stands in it
pub mod NamesStand
-- a household's part of the register and its own book, and books that agree
pub mod Households
pub mod AlikeBooks
-- what a sheet does to a part, and a part from a checkpoint on
pub mod HouseholdSheets
-- totals over all as sums over the households
pub mod HouseholdSums
-- how far a correction reaches
pub mod CorrectionReach
-- what a holder asks is answered from the view alone
pub mod Isolation
-- the first broken trade, by households
pub mod BrokenByParts
-- what two books have in common that a sheet's step reads of known accounts and classes
pub mod ReadsAlike
-- what one event more does to the replay
pub mod EventReplays
-- the order in which trades of orders stand
pub mod TradesInTurn
-- the first order that a correction breaks, among the first ones of the households
pub mod FirstBroken
-- a correction on trial, before it is known whether it breaks an order
pub mod TriedCorrections
-- the parts of the households with one event more
pub mod PartsStay
