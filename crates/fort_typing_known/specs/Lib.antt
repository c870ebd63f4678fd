pub mod Spellings
pub mod Known
pub mod Sets
pub mod Names
pub mod Below
pub mod Places
pub mod Read
