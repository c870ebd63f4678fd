pub mod Ending
pub mod Odd
pub mod Moving
pub mod Halls
pub mod Writing
