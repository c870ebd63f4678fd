pub mod Told
pub mod Premises
pub mod Runs
pub mod Threads
pub mod Laws
