-- dates of the Gregorian calendar as day numbers, their months and anniversaries
pub mod Dates
-- a day number as a date of jiff
pub mod JiffDates
-- the text of a date
pub mod DayText
-- the text of a zone rule
pub mod ZoneText
-- daylight time, and the instant of a local time
pub mod ZoneRules
-- the pricing days of a calendar by its terms, its closures, and what is due
pub mod PricingDays
-- which refusal of a calendar's terms a fault of the code tells
pub mod Refusals
-- terms and pricing days to try the definitions on
pub mod WorkedCalendars
