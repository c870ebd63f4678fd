pub mod Stores
pub mod Lending
pub mod Advancing
pub mod Submitting
pub mod Attempting
pub mod Machines
