pub mod Starts
pub mod Rewritten
pub mod Laws
