pub mod Applicable
pub mod Meets
pub mod Pairs
pub mod Coverage
pub mod Leaves
pub mod Rules
pub mod Best
