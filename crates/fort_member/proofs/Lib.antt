pub mod SelfLaws
pub mod SetLaws
pub mod OverLaws
pub mod Numbered
pub mod BuiltInLaws
pub mod EntryLaws
pub mod WellMadeLaws
pub mod FirstLaws
