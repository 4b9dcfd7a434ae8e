-- under what identity a request asks, and where that was said before
pub mod Requested
-- what is wrong with the loads of a class
pub mod TermPlaces
-- the due moment that an event keeps
pub mod Admitted
