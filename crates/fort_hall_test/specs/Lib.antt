pub mod Lines
pub mod Wrote
pub mod Jobs
pub mod Counts
