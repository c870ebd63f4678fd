pub mod Texts
pub mod Tabled
