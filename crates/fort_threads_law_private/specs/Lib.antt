pub mod Grounds
pub mod Private
pub mod Fine
pub mod Apart
pub mod Laws
