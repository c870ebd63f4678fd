pub mod Numerals
pub mod Apart
pub mod Standing
