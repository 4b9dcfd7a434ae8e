-- What the register shows.
-- the positions of an account
pub mod Show
-- the state of an order
pub mod Trace
-- the books
pub mod Books
-- the statement of an account
pub mod Statement
