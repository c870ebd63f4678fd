pub mod Lists
pub mod TypeRows
pub mod DeclarationRows
pub mod TableLaws
pub mod PlainTypes
