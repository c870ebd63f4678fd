pub mod Source
pub mod Places
pub mod Levels
pub mod Forming
pub mod Formed
