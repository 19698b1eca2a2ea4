pub mod Counting
pub mod Gatherings
pub mod Spans
