-- Prices and orders as they stand after all corrections.
-- pricing days with their closures, classes with their openings, sheets as published
pub mod PublishedTable
-- the sheets with their corrected net asset values
pub mod CorrectedPrices
-- dividend rates, declared and corrected
pub mod DividendRates
-- the classes of an order
pub mod OrderClasses
-- orders with their last receipt and content, and whether they are struck
pub mod CorrectedOrders
-- the book: all that a replay reads of a journal
pub mod CorrectedBook
