-- the members of a JSON body, and what they ask
pub mod Bodies
-- a member as the definitions see it
pub mod Views
-- routes, and what an item of a stream asks
pub mod Calls
-- what the feed gives of a stream
pub mod Steps
-- the names of a reply's texts, and its body
pub mod ReplyBodies
-- the members of its object in the order in which they are written
pub mod Members
-- the bytes of a reply and of a fault
pub mod Bytes
-- the bytes of each fault, written out
pub mod FaultTexts
