-- what a request meets when it comes
pub mod Inquiries
-- the rules that a request of each verb can break, in the order in which they are tried
pub mod VerbRules
