pub mod Lists
pub mod Parts
pub mod Made
pub mod Groups
pub mod Trees
pub mod Declarations
