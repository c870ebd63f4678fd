pub mod Ready
pub mod Exact
