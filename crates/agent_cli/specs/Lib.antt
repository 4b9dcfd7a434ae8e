pub mod Words
pub mod WordViews
pub mod Runs
