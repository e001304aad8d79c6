pub mod HeadOutcomes
pub mod JoinedPieces
pub mod NextPlaces
pub mod Pieces
pub mod Responses
