-- the text of a zone is a text
pub mod ZoneTexts
-- parts that are compared in another shape
pub mod SameParts
