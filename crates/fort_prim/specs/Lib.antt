pub mod Outcomes
pub mod Operations
pub mod Answers
pub mod Arguments
