pub mod Beginnings
pub mod Declarations
pub mod Endings
pub mod Plain
