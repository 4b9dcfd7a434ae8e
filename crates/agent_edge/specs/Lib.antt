-- counts of calls and of faults
pub mod Counts
-- the sources and sinks in memory: what each call does
pub mod Memory
-- what is true of a sink in memory
pub mod Room
-- reading to the end
pub mod Whole
-- the connections of a door, and what each call makes of them
pub mod Links
-- the readings of a clock
pub mod Readings
-- calls of one kind, counted, and those of them that fail
pub mod CallCounts
-- the door in memory: what each call does
pub mod MemoryDoors
-- what is true of a door in memory
pub mod DoorRoom
