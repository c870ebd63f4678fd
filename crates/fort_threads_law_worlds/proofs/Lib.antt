pub mod Following
pub mod Together
pub mod Closing
pub mod Marks
pub mod Fitting
pub mod Queues
pub mod Opening
pub mod After
