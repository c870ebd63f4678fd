pub mod Taken
pub mod Legs
pub mod Books
pub mod Puts
pub mod LegLaws
pub mod BookLaws
pub mod CourseLaws
