pub mod Asking
pub mod Blobs
pub mod Causes
pub mod Head
pub mod Joined
pub mod Range
pub mod Streams
