-- each record of a batch is a line
pub mod LinesAsked
-- the book, the dealers and the lawful journal behind the orders of lines
pub mod JournalBehind
-- the first rule that a line breaks behind them
pub mod FirstOfTwo
pub mod RulesBehind
-- the order that an equal line placed before
pub mod PlacedBefore
-- the machine's answer to a line, one after the other
pub mod AnswersBehind
pub mod LineByLine
