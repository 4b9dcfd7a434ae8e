-- what a run leaves where it ends, and the line of each status
pub mod Runs
-- how a run ends, by its command
pub mod Ends
-- the options that words give, each with its name and its value
pub mod Options
-- the command that words give: its options, and what each value has to be
pub mod Commands
-- a command without where its texts lie in memory
pub mod Views
-- the command that is handed to clap
pub mod Parser
