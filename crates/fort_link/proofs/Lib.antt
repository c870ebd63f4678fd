pub mod Feeds
pub mod Sizes
pub mod Seams
pub mod Units
pub mod Mains
pub mod Spawning
pub mod Files
pub mod Several
