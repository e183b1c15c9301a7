pub mod Load
pub mod Depth
