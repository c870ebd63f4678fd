pub mod Legs
pub mod Laws
