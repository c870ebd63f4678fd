pub mod States
pub mod Builds
pub mod Tasks
pub mod Forms
