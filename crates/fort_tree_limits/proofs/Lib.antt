pub mod EarliestLaws
pub mod TypeWalks
pub mod ExprWalks
pub mod BlockWalks
pub mod Least
pub mod CensusLaws
pub mod DeclarationWalks
