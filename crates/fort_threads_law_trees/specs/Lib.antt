pub mod Leaves
pub mod Changes
pub mod Awake
pub mod Laws
