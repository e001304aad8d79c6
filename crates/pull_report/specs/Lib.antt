pub mod Lines
pub mod Prints
pub mod Report
pub mod Words
