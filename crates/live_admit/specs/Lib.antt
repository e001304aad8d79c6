pub mod Clients
pub mod Covering
pub mod Decided
pub mod Frames
pub mod Rules
pub mod Served
pub mod Settings
