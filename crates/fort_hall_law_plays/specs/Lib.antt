pub mod Worlds
pub mod Offers
pub mod Attempts
pub mod Plays
pub mod Histories
pub mod Laws
pub mod Worked
