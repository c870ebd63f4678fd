pub mod Audits
pub mod Notes
