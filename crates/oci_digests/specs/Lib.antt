pub mod Both
pub mod Checks
pub mod Error
pub mod Hashes
pub mod Holds
pub mod Names
pub mod Printed
pub mod Validates
