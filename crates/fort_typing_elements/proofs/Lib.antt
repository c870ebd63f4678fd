pub mod Places
pub mod Juxtaposing
pub mod Atoms
pub mod Ordered
