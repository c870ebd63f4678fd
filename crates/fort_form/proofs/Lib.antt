pub mod ByParts
pub mod Layers
