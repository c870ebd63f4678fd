pub mod Groupings
pub mod FormsOf
pub mod Reading
pub mod Props
