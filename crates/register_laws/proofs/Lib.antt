-- The lemmas of this crate, file by file.
pub mod Choosing
pub mod Tests
pub mod Sums
pub mod Comparisons
pub mod RulesByName
pub mod CorrectedAgain
pub mod AnswersByCases
pub mod RefusedByFirst
pub mod LawfulJournals
pub mod MomentsNeverFall
pub mod ForwardPriced
pub mod NoIdentityTwice
pub mod Runs
pub mod NoPricingTwice
pub mod HasNoIdentityTwice
pub mod RunsAreLawful
pub mod BatchesAreLawful
pub mod OneEventMore
pub mod OrdersGoOn
pub mod TablesGoOn
pub mod ViewsGoOn
pub mod NothingBefore
pub mod PricesAnew
pub mod BooksGoOn
pub mod KeepsLimits
pub mod FitsRows
pub mod BookOrders
pub mod OrdersLeaveTheirClass
pub mod OrdersInTurn
pub mod OrderlyBooks
pub mod PositionsInOrder
pub mod LotTotals
pub mod DayTurns
pub mod ReplayTurns
pub mod RegistersStand
pub mod SharesByTrades
pub mod PurchasesDivided
pub mod TradeParties
pub mod LotParts
pub mod AccountParts
pub mod LotsCounted
pub mod RegistersKept
pub mod HouseholdCredit
pub mod LettersKept
pub mod LettersBought
pub mod TradesMoveCash
pub mod LawfulReplaysKept
pub mod PurchasesRated
pub mod TablesAreOrderly
pub mod OneTradeAnOrder
pub mod ExecutedInTurn
pub mod CorrectionsLeaveFilled
pub mod DueAsReplied
pub mod CashBalances
pub mod PartyFacts
pub mod BooksSumToZero
pub mod FormsByVerb
pub mod ListForms
pub mod RowsFit
pub mod NamesStand
pub mod FixesOnePrice
pub mod ListParts
pub mod OrdersStanding
pub mod PartPlaces
pub mod AlikeDays
pub mod StepsAlike
pub mod TurnsFiltered
pub mod ReplayedAlone
pub mod PlacesLeftOut
pub mod ViewBooks
pub mod HouseholdSheets
pub mod KnownAccounts
pub mod HouseholdSums
pub mod ClassesAlike
pub mod CorrectionReach
pub mod OrderReach
pub mod SeenAlike
pub mod Isolation
pub mod HouseholdsIsolated
pub mod BrokenByParts
pub mod SheetsClimb
pub mod Unreached
-- where a list has one of a name at most
pub mod OneOfAName
-- books that agree on what sheets read replay alike
pub mod ReadsAlike
-- a sheet behind the others changes nothing that they read
pub mod SheetMore
-- a class on a sheet is of the sheet's calendar
pub mod ListedCalendars
-- new orders wait, and so do orders that may be cancelled
pub mod OrdersWait
-- what one event more does to the replay
pub mod EventReplays
-- trades of orders stand in the order of execution
pub mod OrderTurns
-- the first order that a correction breaks
pub mod FirstBroken
-- the book of a correction on trial
pub mod TriedCorrections
-- the parts of the households with one event more
pub mod PartsStay
