pub mod Contexts
pub mod Error
pub mod Settings
pub mod Shown
