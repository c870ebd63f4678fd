pub mod Reply
pub mod Said
pub mod Tasks
pub mod Fronts
pub mod Laws
pub mod Delivery
pub mod Outcome
