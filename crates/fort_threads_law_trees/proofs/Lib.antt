pub mod Changing
pub mod Lifting
pub mod Leaving
pub mod Freeing
