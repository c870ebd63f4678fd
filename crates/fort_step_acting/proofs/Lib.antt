pub mod Values
pub mod Acted
pub mod Calling
