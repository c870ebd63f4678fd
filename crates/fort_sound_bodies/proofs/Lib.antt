pub mod Within
pub mod Taken
pub mod Parameters
pub mod Bodies
pub mod Receivers
pub mod Signed
pub mod Found
pub mod Members
