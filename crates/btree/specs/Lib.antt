pub mod Entries
pub mod Scan
pub mod Inner
pub mod Count
