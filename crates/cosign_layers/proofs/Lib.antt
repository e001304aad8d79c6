pub mod LayerReads
pub mod Layers
pub mod Loops
pub mod Outcomes
pub mod SatisfiesPolicy
pub mod Steps
