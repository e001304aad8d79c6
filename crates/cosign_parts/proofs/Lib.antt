pub mod Passed
pub mod PlainTexts
pub mod Ranges
pub mod Shows
pub mod Texts
