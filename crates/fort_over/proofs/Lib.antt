pub mod Lists
pub mod PairLaws
pub mod Order
pub mod BestLaws
pub mod PlaceLaws
pub mod CoverLaws
pub mod Whole
