-- The lemmas of this crate, file by file.
pub mod NamesBegun
pub mod LooksShown
pub mod TracesCounted
pub mod KeptInMemory
pub mod Sending
pub mod LinesPut
pub mod SummaryMade
