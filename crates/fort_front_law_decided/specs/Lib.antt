pub mod Claims
pub mod Phases
pub mod Whole
