pub mod Numbers
pub mod ByRows
