pub mod DocumentTests
pub mod Images
pub mod LayerSatisfies
pub mod LinkTests
pub mod SameLayers
pub mod SameManifests
pub mod Sameness
pub mod VerifiedDocumentTests
