mod Known
mod FieldLaws
pub mod AcceptedLaws
pub mod Groupings
pub mod Names
pub mod Declarations
pub mod Ready
