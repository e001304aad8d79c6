pub mod Shelf
pub mod Terms
pub mod Texts
