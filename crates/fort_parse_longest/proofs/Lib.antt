mod Rows
mod Expressions
mod NoParts
mod TokenPlaces
