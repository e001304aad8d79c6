pub mod Certificate
pub mod Config
pub mod States
