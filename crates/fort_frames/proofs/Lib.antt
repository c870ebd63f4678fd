pub mod Heads
pub mod Same
