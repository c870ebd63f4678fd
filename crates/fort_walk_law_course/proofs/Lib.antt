pub mod Picks
pub mod Bounds
pub mod Store
pub mod Keeps
pub mod Passes
pub mod Reaches
