pub mod Types
pub mod Objects
pub mod Declarations
pub mod Rows
pub mod Laws
