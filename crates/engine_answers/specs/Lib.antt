pub mod Answers
pub mod Blobs
pub mod Documents
pub mod Index
pub mod Referrers
