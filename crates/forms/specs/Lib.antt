pub mod Course
pub mod Inner
