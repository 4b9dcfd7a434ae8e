-- lists that fall into what passes a test and what doesn't
pub mod ListParts
-- the order of places, and what is found, taken out and put back
pub mod PlaceFacts
-- what a handler needs of a position that it takes out of a day and closes with a trade
pub mod DayFacts
