pub mod Added
pub mod Lives
pub mod Kept
pub mod Conservative
pub mod Objects
pub mod Worked
