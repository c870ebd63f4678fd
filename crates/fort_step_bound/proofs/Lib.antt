pub mod Counts
pub mod Pairs
pub mod Spans
pub mod TwoValues
