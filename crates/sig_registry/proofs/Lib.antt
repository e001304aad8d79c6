pub mod CachedAnswers
pub mod Facts
pub mod InTurn
pub mod InWords
pub mod Logs
pub mod NamedImages
