pub mod Making
pub mod Tree
pub mod Read
pub mod Rows
pub mod One
