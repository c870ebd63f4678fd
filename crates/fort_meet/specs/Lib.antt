pub mod Meets
pub mod Rows
