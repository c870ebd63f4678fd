pub mod Bools
pub mod Scoped
pub mod Shallow
