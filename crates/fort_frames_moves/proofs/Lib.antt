pub mod Waits
pub mod Enters
pub mod Parts
pub mod Missed
pub mod Kept
pub mod Found
