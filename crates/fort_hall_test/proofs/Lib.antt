pub mod Chain
pub mod Joined
pub mod Counted
pub mod Settled
