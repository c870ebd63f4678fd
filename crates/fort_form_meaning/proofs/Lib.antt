pub mod FormsFlats
pub mod FormsBlocks
pub mod TypePlaces
