pub mod Read
pub mod File
pub mod Inner
