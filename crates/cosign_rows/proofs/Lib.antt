pub mod Blobs
pub mod Descriptors
pub mod Exits
pub mod First
pub mod Leads
pub mod Sequences
