pub mod BuiltIn
pub mod Declarations
pub mod Sets
pub mod Answers
pub mod Laws
