pub mod Lists
pub mod Steps
pub mod Types
pub mod Standing
pub mod FlatsExpressions
pub mod FlatsBlocks
pub mod Bodies
