pub mod Sums
pub mod Headers
pub mod Finding
pub mod Part
pub mod Sizes
pub mod Examples
