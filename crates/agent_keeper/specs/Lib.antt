-- what is kept, and what a batch makes of it
pub mod Content
-- what the calls of a keeper have in common
pub mod Calls
-- rows of bytes one behind the other
pub mod Packed
-- what the keepers in memory keep
pub mod Memory
