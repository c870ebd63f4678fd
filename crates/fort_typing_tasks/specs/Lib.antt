pub mod Tasks
pub mod Insides
