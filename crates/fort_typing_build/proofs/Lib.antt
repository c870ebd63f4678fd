pub mod Kept
pub mod LastType
pub mod Levels
