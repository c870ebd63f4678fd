pub mod Watched
pub mod Suits
pub mod Books
