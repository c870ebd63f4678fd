pub mod Around
pub mod Seen
pub mod Before
pub mod Stepped
pub mod Trying
pub mod Ended
pub mod Taken
pub mod Left
