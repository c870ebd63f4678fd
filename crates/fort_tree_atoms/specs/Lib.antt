pub mod Gathered
pub mod Gathering
pub mod AtomsOf
pub mod AtomNames
