-- The journal: what happened, in order, what its events say, and who sees which of them.
-- the first value that is there, a value where a condition holds, the last item that passes
pub mod Choices
-- the journal, and a journal with one event more
pub mod Journals
-- what events say, kind by kind, and what has a number
pub mod Kinds
-- what everybody sees, and a household's view
pub mod Views
-- journals that the machine makes: each event is what it appends to those before
pub mod Lawful
