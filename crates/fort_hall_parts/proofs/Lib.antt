pub mod Forms
pub mod Rounds
pub mod Plain
pub mod Ways
pub mod Finds
pub mod Marks
pub mod Puts
pub mod Divisions
