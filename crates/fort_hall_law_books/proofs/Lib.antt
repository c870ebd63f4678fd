pub mod Marks
pub mod Taken
pub mod Legs
pub mod Books
pub mod Course
