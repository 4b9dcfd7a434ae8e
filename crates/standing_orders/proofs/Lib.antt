-- The lemmas of this crate, file by file.
pub mod GatheredRows
pub mod InTurn
pub mod IndexKept
pub mod LateOrders
pub mod OwnOrders
pub mod OwnPlaces
pub mod OwnerChains
pub mod PickedRows
pub mod PricedLast
pub mod PricedOrders
pub mod RisingPlaces
pub mod SettledPlaces
pub mod SortedEntries
pub mod WaitingKept
-- the index of a journal's orders, event by event
pub mod IndexSteps
pub mod SettledStay
