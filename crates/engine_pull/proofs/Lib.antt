pub mod AttemptSteps
pub mod Encodings
pub mod ImageParts
pub mod Layers
pub mod NoSink
pub mod PlacesInTurn
pub mod TagLists
pub mod ThereTree
