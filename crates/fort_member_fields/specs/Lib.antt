pub mod Written
pub mod Own
pub mod Inherited
pub mod Gathering
pub mod Walks
pub mod Rules
pub mod Answers
