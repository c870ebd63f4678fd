pub mod Rests
pub mod Even
pub mod Kept
