pub mod Mentioned
pub mod Mentions
pub mod Mentioning
pub mod TypeNames
