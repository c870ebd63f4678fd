pub mod MeaningLaws
pub mod NameLaws
pub mod FileLaws
pub mod ReadLaws
pub mod Uniqueness
pub mod SymbolLaws
pub mod NumberLaws
pub mod Exists
