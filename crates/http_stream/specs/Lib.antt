-- the lines of a head, and where its text ends
pub mod Lines
-- what the scan of a line says of the bytes that it reads
pub mod Scanning
-- what the fields of a head say: the key, the body's length, whether the connection closes
pub mod Heads
-- the items of a stream, one after another
pub mod Stream
-- what the readers of a head say of spans in a text
pub mod Reading
-- what an intake keeps beside the bytes
pub mod Kept
