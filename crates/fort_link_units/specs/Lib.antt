pub mod Said
pub mod Limits
pub mod Answer
pub mod Heads
pub mod Apis
