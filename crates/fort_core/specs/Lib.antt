pub mod Opened
pub mod Nodes
pub mod Stack
pub mod Weights
