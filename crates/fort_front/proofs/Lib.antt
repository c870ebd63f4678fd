pub mod Overloaded
pub mod Same
pub mod Apart
pub mod Refused
pub mod Called
pub mod Programs
pub mod Rewritten
