pub mod Types
pub mod Builtin
pub mod Bodies
pub mod Worked
