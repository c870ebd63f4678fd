pub mod Courses
pub mod Calls
pub mod Picked
pub mod Taken
