pub mod Spellings
pub mod Meanings
pub mod Files
pub mod Building
