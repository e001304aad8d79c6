pub mod Builder
pub mod Clients
pub mod Growth
pub mod Keeping
pub mod PushedSignatures
pub mod Signature
pub mod State
