pub mod Written
pub mod Halls
