pub mod Carried
pub mod Endings
pub mod Quiet
