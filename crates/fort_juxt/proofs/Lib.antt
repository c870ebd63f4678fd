pub mod FirstLaws
pub mod TightOnce
pub mod TightLaws
pub mod Divisions
pub mod Joining
pub mod Steps
pub mod LooseLaws
