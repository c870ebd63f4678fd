pub mod Cells
pub mod Levels
pub mod Calls
pub mod Closes
pub mod Again
