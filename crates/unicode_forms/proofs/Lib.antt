pub mod Closed
pub mod Order
pub mod Same
pub mod RunLaws
pub mod Examples
