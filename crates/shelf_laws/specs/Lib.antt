pub mod EvaluatesWith
pub mod IsHosted
pub mod Shelves
