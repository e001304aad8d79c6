pub mod Asked
pub mod Pins
pub mod Places
pub mod Verdicts
