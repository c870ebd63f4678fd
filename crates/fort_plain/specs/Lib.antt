pub mod Replays
pub mod Legal
pub mod Paths
pub mod Takes
pub mod Within
