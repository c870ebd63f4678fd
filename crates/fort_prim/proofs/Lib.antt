pub mod Ranges
pub mod PowerLaws
pub mod DivisorLaws
pub mod Characters
pub mod Items
pub mod Replies
