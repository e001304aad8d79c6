pub mod Descriptor
pub mod First
pub mod Whole
