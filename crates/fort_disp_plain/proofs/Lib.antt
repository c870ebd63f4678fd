pub mod Members
pub mod Specific
