pub mod Parts
pub mod Names
pub mod Find
pub mod Lookup
pub mod Inner
