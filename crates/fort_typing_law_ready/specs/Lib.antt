pub mod Fit
pub mod Component
