pub mod Names
pub mod Methods
pub mod Declarations
pub mod Whole
