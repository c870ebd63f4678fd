pub mod Earliest
pub mod Census
