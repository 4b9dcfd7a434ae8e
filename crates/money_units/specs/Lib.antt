-- how halves are rounded, and quotients up
pub mod Rounding
-- the text forms of numbers: money, shares, rates
pub mod Texts
-- the bytes of a text: what it begins with, which are visible
pub mod ByteTexts
