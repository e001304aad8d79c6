pub mod Answers
pub mod Auths
pub mod Bounded
pub mod Caching
pub mod KeptCalls
pub mod Keys
pub mod Settings
pub mod Weights
