pub mod Gathered
pub mod Part
