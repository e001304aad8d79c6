pub mod Blobs
pub mod Causes
pub mod Cut
pub mod Taken
