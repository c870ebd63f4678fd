pub mod Lists
pub mod Servers
pub mod Roots
pub mod Picks
pub mod Early
pub mod Whole
