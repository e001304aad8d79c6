pub mod Facts
pub mod Layers
pub mod Maps
pub mod Packs
pub mod ReferredShelf
pub mod Requests
pub mod Signed
