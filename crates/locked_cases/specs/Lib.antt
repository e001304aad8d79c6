pub mod Built
pub mod ChainInput
pub mod Checks
pub mod Entering
pub mod Holds
pub mod Input
pub mod Locks
