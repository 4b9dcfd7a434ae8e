-- What flows add up to.
pub mod FlowFacts
pub mod PostedFacts
pub mod LatestNav
pub mod ClassFlowFacts
pub mod GainFacts
pub mod RisingClasses
pub mod GainsOfClasses
pub mod RowFacts
pub mod TallyFacts
pub mod TradeFlowFacts
pub mod BookedFacts
pub mod ZeroSums
