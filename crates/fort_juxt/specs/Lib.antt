pub mod First
pub mod Tight
pub mod Loose
pub mod Walks
