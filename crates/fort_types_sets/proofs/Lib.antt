pub mod Decided
pub mod Highest
pub mod Under
pub mod Lower
pub mod Chosen
