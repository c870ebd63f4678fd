pub mod EditionOne
