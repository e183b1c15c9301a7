pub mod Mends
pub mod Listed
pub mod Inner
