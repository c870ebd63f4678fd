mod Inside
mod Thrown
pub mod Laws
