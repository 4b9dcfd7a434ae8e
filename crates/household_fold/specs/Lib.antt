-- the facts that a step reads: the book that they give, and the sheet at hand
pub mod Facts
-- what a search finds in its place
pub mod Searches
-- what holds of a register that a step finds and leaves: few positions, letters within their limits, lot numbers that fit
pub mod Limits
-- what one position adds to the credit of an account
pub mod Credits
-- a purchase in its parts
pub mod Purchases
-- the dividends of a sheet in their parts
pub mod Dividends
-- a household's own accounts and orders, and a step over them
pub mod Households
-- the numbers of lots
pub mod Numbers
-- an exchange in its parts
pub mod Exchanges
-- when a sheet does nothing to a household
pub mod Quiet
-- a redemption in its parts
pub mod Redemptions
