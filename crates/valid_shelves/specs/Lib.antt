pub mod Examples
pub mod Laws
pub mod Referred
pub mod Texts
