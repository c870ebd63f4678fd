pub mod Giving
pub mod Splitting
pub mod Groupings
pub mod Parts
pub mod ItemForms
