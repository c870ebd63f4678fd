pub mod Figures
pub mod Suits
pub mod Forms
