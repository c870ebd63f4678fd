pub mod Fitting
pub mod Called
