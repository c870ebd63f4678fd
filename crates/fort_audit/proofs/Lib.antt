pub mod Partings
pub mod Said
