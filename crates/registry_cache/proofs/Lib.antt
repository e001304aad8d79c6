pub mod Backs
pub mod Kept
pub mod KeyTexts
pub mod Longest
pub mod Tells
