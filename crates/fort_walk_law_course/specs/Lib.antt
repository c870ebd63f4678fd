pub mod Picks
pub mod Course
pub mod Ends
pub mod Laws
