pub mod FormPlaces
pub mod Begins
pub mod Orders
pub mod Walking
pub mod Tabled
