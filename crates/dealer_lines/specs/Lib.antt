-- what a batch may ask, and the orders that its lines place
pub mod Lines
-- the rules on a line behind the orders of earlier lines
pub mod RulesBehind
-- the order that an equal line placed before
pub mod Repeats
-- what is said of a line
pub mod Answers
