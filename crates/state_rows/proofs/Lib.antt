-- each part of a checkpoint row is exact
pub mod EachPart
-- a test of each item, as a loop goes
pub mod Tests
-- classes are counted by the set of those that were met
pub mod ClassesMet
-- rows of literals are computed
pub mod RowsOnLiterals
