pub mod Names
pub mod Table
pub mod Numbers
pub mod Laws
