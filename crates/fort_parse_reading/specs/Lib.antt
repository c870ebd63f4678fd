pub mod Parser
pub mod Words
pub mod Longest
