pub mod AskedTags
pub mod BothTags
pub mod Calls
pub mod Ending
pub mod FrameReads
pub mod Plain
pub mod Ready
