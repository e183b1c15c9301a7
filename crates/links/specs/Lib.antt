pub mod Named
pub mod Link
pub mod Inner
