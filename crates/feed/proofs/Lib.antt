pub mod Reading
pub mod Windows
pub mod Feeding
pub mod Examples
