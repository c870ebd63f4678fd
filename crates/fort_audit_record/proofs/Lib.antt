pub mod Texts
pub mod Lasts
pub mod SoFar
pub mod Digits
pub mod Steps
pub mod Again
pub mod Finish
pub mod Whole
