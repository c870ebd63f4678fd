pub mod Flats
pub mod Blocks
pub mod Runs
pub mod Nests
