pub mod Envelope
pub mod ErrorCode
