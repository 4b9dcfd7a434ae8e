-- each kind of event is exact
pub mod EachKind
-- a whole row is exact
pub mod WholeRows
-- an event holds no more than its row
pub mod RowSizes
-- how exact fields are put together
pub mod Fields
-- each field is exact
pub mod EachField
-- reading items one after the other, as a loop does
pub mod Loops
