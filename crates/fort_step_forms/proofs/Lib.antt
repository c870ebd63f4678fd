pub mod Naturals
pub mod Places
