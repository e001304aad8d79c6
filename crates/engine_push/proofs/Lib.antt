pub mod CallTree
pub mod Cuts
pub mod Leads
pub mod LocationTree
pub mod ManifestTree
pub mod PieceTree
pub mod Refusals
pub mod StreamTree
