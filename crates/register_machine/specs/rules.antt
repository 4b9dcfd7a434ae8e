-- Who may ask what, and what a request is refused for.
-- who calls, and what each caller may do
pub mod Callers
-- what the machine knows when a request comes
pub mod Situations
-- the terms of a calendar or a class that are refused
pub mod Terms
-- what a request names, and whether it is there
pub mod NamedThings
-- references and numbers of corrections, each used once
pub mod Identities
-- due moments, minimums, exchanges, letters, receipts, cancels
pub mod Orders
-- sheets in their turn, complete and not too soon
pub mod Sheets
-- what stands already
pub mod Standing
-- how many there may be
pub mod Limits
-- the order in which the rules are tried
pub mod InOrder
-- what a correction may not break
pub mod Breaks
