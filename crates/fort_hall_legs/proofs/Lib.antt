pub mod Crossing
pub mod Made
