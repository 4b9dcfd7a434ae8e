-- The reading order: what came in and what went out; the cash of the parties; changes and what is posted of them.
pub mod Flows
pub mod PartyAccounts
pub mod ClassFlows
pub mod Posted
pub mod ClassGains
pub mod Movements
pub mod TradeFlows
pub mod Tallies
pub mod ChangeRows
pub mod Booked
