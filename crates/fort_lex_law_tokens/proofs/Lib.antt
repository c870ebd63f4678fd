pub mod Numerals
pub mod Apart
pub mod Lines
pub mod Named
