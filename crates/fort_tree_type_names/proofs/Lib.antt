pub mod MentionsTypes
pub mod MentionsFlats
pub mod MentionsBlocks
pub mod Steps
