pub mod Groupings
