pub mod Lists
pub mod FormsLeave
pub mod CallsRun
pub mod Objects
pub mod Members
pub mod Rows
pub mod KeepsApart
pub mod Whole
