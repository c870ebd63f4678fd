pub mod Defined
pub mod Stops
pub mod Walks
pub mod Idles
pub mod Grows
