pub mod Answers
pub mod Everyone
pub mod Heads
pub mod HostErrors
pub mod Items
pub mod Names
pub mod Questions
pub mod Wire
