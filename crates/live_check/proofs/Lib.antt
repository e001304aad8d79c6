pub mod Ends
pub mod EntryLayers
pub mod FrameReads
pub mod InTurn
pub mod LockEnds
pub mod PartsIn
pub mod Pieces
pub mod Policies
