pub mod Tables
pub mod Thrown
