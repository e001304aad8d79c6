pub mod Agreeing
pub mod Allowed
pub mod Confined
pub mod OneImages
pub mod Ready
pub mod Reviewing
pub mod Reviews
pub mod Texts
