pub mod MoreCalls
pub mod Faults
pub mod Initials
pub mod Bodies
pub mod Declared
pub mod Runs
pub mod Component
