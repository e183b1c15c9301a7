pub mod Verdict
pub mod Extents
pub mod Inner
