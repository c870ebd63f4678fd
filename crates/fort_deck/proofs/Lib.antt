pub mod Weights
pub mod Numbers
pub mod Deals
pub mod Ends
pub mod TakenIn
