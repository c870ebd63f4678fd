pub mod Legs
pub mod Course
pub mod Paths
