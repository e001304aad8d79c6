pub mod Courses
pub mod Indexes
pub mod Pulled
pub mod Terms
