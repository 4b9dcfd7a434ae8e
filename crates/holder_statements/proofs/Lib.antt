-- a line that grows word by word is the line of its words
pub mod WordLines
-- trades in the order of their moments, cut by dates
pub mod PeriodFacts
-- the holdings of an account, class by class
pub mod HoldingFacts
-- statements that read the same are the same
pub mod AlikeStatements
-- what a sheet adds to the trades
pub mod SheetTrades
-- the trades of a replay are dated near their moments
pub mod DatedReplays
-- a zone's offset is of less than 15 hours
pub mod ZoneOffsets
-- a pricing day's moment is near its date
pub mod NearDays
-- the sheets of a lawful journal are dated near their moments
pub mod NearSheets
-- trades and statements of a lawful journal
pub mod LawfulTrades
-- positions found class by class
pub mod AccountPositions
-- the trades of one sheet, and what is found there
pub mod TradesFromSheet
-- what became of an order, by its table and its household's trades
pub mod TracedOrders
-- the books as they are kept
pub mod BooksAreKept
-- the cash of all holders
pub mod HoldersTogether
-- what is looked for in a part; trades by sheet; and parts of lawful journals
pub mod PartsLookedAt
pub mod TradesBySheet
pub mod FitForLooks
-- the numbers of sheets
pub mod SheetNumbers
-- the classes that list a household's positions
pub mod ClassesListed
