pub mod BuiltImages
pub mod ChainHolds
pub mod ChainReady
pub mod Entered
pub mod Policies
pub mod Ready
