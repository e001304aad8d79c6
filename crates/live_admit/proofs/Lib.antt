pub mod ClientStates
pub mod Decisions
pub mod Ends
pub mod Places
pub mod Reviews
