pub mod Numbers
pub mod Lookups
pub mod Leaves
pub mod Threads
