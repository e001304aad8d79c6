pub mod Sinks
pub mod Springs
