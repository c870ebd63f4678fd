pub mod Gathers
pub mod ByStanding
