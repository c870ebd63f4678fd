pub mod Suited
pub mod Fits
pub mod Founded
pub mod Accepted
