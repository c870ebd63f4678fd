pub mod Parts
mod Takes
pub mod NamesSound
pub mod MethodsSound
pub mod DeclarationsSound
pub mod Followers
pub mod NamesComplete
pub mod MethodsComplete
pub mod DeclarationsComplete
