pub mod Told
pub mod Named
pub mod Sides
pub mod Wanted
pub mod Sources
pub mod Clauses
pub mod Closes
