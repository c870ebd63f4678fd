pub mod Forms
pub mod Sought
pub mod Laws
