pub mod Algorithms
pub mod HexDigits
pub mod Equal
pub mod ExactChecks
pub mod HeaderText
pub mod Prefixes
pub mod SameBytes
