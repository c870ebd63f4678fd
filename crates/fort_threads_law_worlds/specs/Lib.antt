pub mod Worlds
pub mod Known
pub mod Stores
pub mod Queues
pub mod Effects
pub mod Laws
