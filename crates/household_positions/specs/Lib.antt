-- what holds of a household's register, and what is left when a position is taken out of it
pub mod Register
