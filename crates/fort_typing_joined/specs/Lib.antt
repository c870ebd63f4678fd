pub mod Values
pub mod Ways
pub mod Steps
pub mod Taking
pub mod Postfixes
