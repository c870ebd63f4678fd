pub mod Stepping
pub mod Stopping
pub mod Taking
pub mod Turning
pub mod Within
pub mod Below
