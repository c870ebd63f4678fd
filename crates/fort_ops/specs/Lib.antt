pub mod Spellings
pub mod Precedence
pub mod Senses
