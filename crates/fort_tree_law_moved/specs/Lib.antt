pub mod Spots
pub mod TypesMoved
pub mod TreesMoved
pub mod DeclarationsMoved
