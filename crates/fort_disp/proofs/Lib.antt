pub mod Bools
pub mod Places
pub mod Asking
pub mod Loops
pub mod InOrder
pub mod Fitting
pub mod Picked
