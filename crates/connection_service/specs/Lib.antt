-- what each item of a connection is answered with
pub mod Answers
-- what becomes of a request: the rules, and its household's view
pub mod Requests
-- a run over the items of a connection
pub mod Runs
-- how a connection is served, and how it ends
pub mod Serving
-- connections served one after another
pub mod InTurn
