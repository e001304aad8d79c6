pub mod Entries
pub mod Files
pub mod Locked
pub mod LockedDocuments
pub mod Tests
pub mod Unlocked
