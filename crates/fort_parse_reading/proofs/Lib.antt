pub mod Laws
pub mod Taking
pub mod Loops
pub mod Yields
pub mod Longest
