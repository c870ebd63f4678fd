pub mod Legs
pub mod Books
pub mod Answers
pub mod Laws
