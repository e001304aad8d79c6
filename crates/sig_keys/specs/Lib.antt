pub mod Ec
pub mod Ecdsa
pub mod Ed25519
pub mod Pair
pub mod Rsa
pub mod Shown
pub mod Sizes
pub mod StoreSigner
