pub mod Left
pub mod Inner
pub mod Way
