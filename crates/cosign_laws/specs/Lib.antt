pub mod Settled
pub mod Shelves
pub mod Small
