pub mod Parts
pub mod SameType
