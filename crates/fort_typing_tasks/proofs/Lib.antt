pub mod Levels
pub mod Single
pub mod Known
pub mod Binders
