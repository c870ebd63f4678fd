pub mod Ways
pub mod Matches
pub mod Placed
pub mod Sleepers
pub mod Laws
