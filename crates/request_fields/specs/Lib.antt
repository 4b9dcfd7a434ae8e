-- what a reader of fields answers, against the value or the place that the form gives
pub mod Reading
