-- a run over the items of a script, and where it may end
pub mod Runs
