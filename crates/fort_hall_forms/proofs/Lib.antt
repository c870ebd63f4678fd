pub mod Past
pub mod Odd
pub mod Seeking
pub mod Sleeping
pub mod Trodden
pub mod Ending
