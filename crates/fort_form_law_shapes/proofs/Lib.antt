pub mod Lists
pub mod Made
pub mod Groups
pub mod Trees
