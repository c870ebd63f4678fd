pub mod AtParts
pub mod AtFrames
pub mod InOrder
pub mod Groups
