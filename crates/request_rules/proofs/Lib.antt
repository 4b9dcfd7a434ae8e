-- The lemmas of this crate, file by file.
pub mod RulesByVerb
pub mod LookUps
pub mod Named
pub mod Classes
pub mod Declared
