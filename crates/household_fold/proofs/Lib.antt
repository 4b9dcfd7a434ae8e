-- what a search finds in a table by number
pub mod LookUps
-- what the sheet at hand has of the sheet as it was published
pub mod SheetFacts
-- what the corrected book has of the tables
pub mod BookFacts
-- the credit of an account, position by position
pub mod CreditFacts
-- what is found in a register after a position was put, and which letters it has
pub mod PutFacts
-- a purchase: what its parts make of the day of the definitions
pub mod PurchaseFacts
-- letters on a sheet: what each step leaves
pub mod LetterSteps
-- a redemption, by what it is short of
pub mod RedemptionFacts
-- what is found in a register in every other place than that of a position that was put
-- the numbers of next lots never fall
pub mod LotNumbers
-- what holds over each order
pub mod OrderSteps
-- dividends in their parts
pub mod DividendFacts
-- a register of a household's accounts has few positions
pub mod FewPositions
-- the prices that the sheet at hand lists
pub mod ListedFacts
-- an exchange in its parts
pub mod ExchangeFacts
-- open letters stay within their limits over each order that begins none
pub mod LettersStay
-- a sheet that is quiet for a household
pub mod QuietFacts
-- orders one after another: what holds before each of them, and behind it
pub mod OrdersInTurn
-- what dividends and letters that end leave as it was
pub mod SheetSteps
