pub mod Groupings
pub mod Rows
pub mod Hierarchies
pub mod Fields
pub mod Memberships
pub mod Programs
