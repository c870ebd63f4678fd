pub mod Lines
pub mod Spots
pub mod Units
pub mod Whole
pub mod Answer
pub mod Reading
