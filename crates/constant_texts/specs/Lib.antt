pub mod Defaults
pub mod MediaTypes
pub mod Names
pub mod Numbers
