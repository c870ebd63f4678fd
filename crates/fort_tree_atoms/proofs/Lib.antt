pub mod GathersFlats
pub mod GathersBlocks
pub mod Steps
