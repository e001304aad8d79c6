pub mod AllImages
pub mod EntryPulls
pub mod IndexEntries
pub mod OneImage
pub mod WholeIndex
