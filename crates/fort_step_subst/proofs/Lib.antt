pub mod Equations
pub mod HeldSteps
pub mod SameBody
pub mod Tries
