mod Lookups
mod Calls
mod Opening
mod Tables
pub mod Threaded
