pub mod Heads
pub mod Frames
pub mod States
pub mod Laws
