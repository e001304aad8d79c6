pub mod MemoryPieces
pub mod Plans
pub mod Sources
